-- Days and quotes: what a step of the rules is, by what the market says and by the rows and slips that the code leaves.
use Rattle.std.proofs.Common.{◌≡◌, ℕ, ◌≤◌, Bool, true, false, cond, not, ◌&&◌, eqb, ltb, List, [], ◌∷◌, ◌++◌, length, take, drop, is_some, Some, None, count_by, Option, sym, refl, ap, ◌∙◌, ap₂, arith}
use Rattle.std.specs.Option.{option_map}
use Rattle.std.proofs.lemmas.List.{append-nil, take-append-le, take_at, drop_at}
use Rattle.std.proofs.lemmas.Bool.{eq-eqb, ltb-false}
use Rattle.values.specs.Prices.{priced}
use Rattle.values.specs.declared.price.Price.{Price}
use Rattle.conditions.specs.Meaning.{Meaning}
use Rattle.conditions.specs.declared.event.Day.{Day}
use Rattle.conditions.specs.declared.event.Tick.{Tick}
use Rattle.market.proofs.Checking.{all_pass, one_stops}
use Rattle.rules.specs.Book.{Setup, State, watches_share, quote_call_checks, rows_after, slips_after, step, decided}
use Rattle.rules.specs.Book.{Row as Standing}
use Rattle.rules.specs.Bounds.{continuous, greatest_share}
use Rattle.rules.specs.Calls.{opening, quoting, single, by_market, by_book, done, wrote, refused}
use Rattle.rules.specs.Checks.{Check, check, first_fault, under}
use Rattle.rules.specs.Market.{Share, Market, put, day_of, opened, day_checks, quote_checks}
use Rattle.rules.specs.declared.fault.MarketFault.{MarketFault}
use Rattle.rules.specs.declared.fault.MarketFault.TheVariants as market
use Rattle.rules.specs.declared.fault.PlacingFault.TheVariants as fault
use Rattle.rules.specs.declared.opening.Opening.{Opening}
use Rattle.rules.specs.declared.quote.Quote.{Quote}
use Rattle.rules.specs.declared.slip.Slip.{Slip}
use Rattle.book.specs.Turning.{quote_tick, ticked_rows, ticked_slips, dayed_rows}
use Rattle.book.specs.View.{watches_now, rows_view}
use Rattle.book.specs.declared.row.Row.{Row}
use Rattle.book.proofs.Bearing.{quote_market, day_market, watching_seen, quote_rows, quote_slips, silent_rows, silent_slips, day_rows}
use Rattle.book.proofs.Few.{ticked_slips_few}

-- the checks of a lower layer
under_first : {F G : Type 0} (hold : F → G) (cs : List (Check F)) → first_fault (under hold cs) ≡ option_map hold (first_fault cs)
under_first hold [] = refl
under_first {F = F} hold (c ∷ cs) = go c.fails c.fault (under_first hold cs)
  where
    go : (b : Bool) (f : F) → first_fault (under hold cs) ≡ option_map hold (first_fault cs) → cond b (Some (hold f)) (first_fault (under hold cs)) ≡ option_map hold (cond b (Some f) (first_fault cs))
    go true f ih = refl
    go false f ih = ih

-- the part of the rows that was lent became `part`, of which the first k stay
pub stays_front : {X : Type 0} (mid part post : List X) (k : ℕ) → k ≤ length mid → length part ≡ length mid → take k (part ++ post) ≡ take k part
stays_front mid part post k le long = take-append-le k part post (omega arith)

-- A day.

put_here : (h : ℕ) (s : Option Share) (mk : Market) → put h s mk h ≡ s
put_here h s mk = ap (λ b. cond b s (mk h)) (eq-eqb h h refl)

-- xs are the rows before, and ys those after it
pub day_taken : {C : Type 0} (means : C → Meaning) (su : Setup) (mk mk₂ : Market) (o : Opening) (d : Day) (xs ys : List (Row C)) → None ≡ first_fault (day_checks mk o) → mk₂ ≡ day_market o mk → Some d ≡ day_of (mk₂ o.share)
    → rows_view means mk₂ ys ≡ dayed_rows o.share d (rows_view means mk₂ xs)
    → (record { market = mk₂; rows = rows_view means mk₂ ys }, done) ≡ step su (record { market = mk; rows = rows_view means mk xs }) (single (opening o))
day_taken means su mk mk₂ o d xs ys pass after day rows =
    let s : State = record { market = mk; rows = rows_view means mk xs } in
    let known : day_of (opened o (mk o.share)) ≡ Some d = sym (day ∙ ap (λ m. day_of (m o.share)) after ∙ ap day_of (put_here o.share (opened o (mk o.share)) mk)) in
    ap (λ z. (record { market = mk₂; rows = z }, done)) rows
    ∙ ap (λ m. (record { market = m; rows = dayed_rows o.share d (rows_view means m xs) }, done)) after
    ∙ sym (ap (λ z. (record { market = day_market o mk; rows = z }, done)) (append-nil (rows_after su.limit mk (opening o) (rows_view means mk xs)) ∙ day_rows means mk o d su.limit known xs))
    ∙ ap (λ x. decided su s (opening o) (option_map by_market x)) pass

-- A quote.

pub quote_refused : (su : Setup) (s : State) (q : Quote) (n : ℕ) (f : MarketFault) → Some f ≡ first_fault (quote_checks s.market q) → (s, refused (by_book (fault.Market f))) ≡ step su s (single (quoting q n))
quote_refused su s q n f e =
    sym (ap (λ x. decided su s (quoting q n) (option_map by_book x))
    (one_stops (under fault.Market (quote_checks s.market q)) _ (fault.Market f) (ap (option_map fault.Market) e ∙ sym (under_first fault.Market (quote_checks s.market q)))))

-- the market takes it, so that the places are left to check
abbrev pub crowds : State → Quote → ℕ → Bool
crowds s q n = eqb q.phase continuous && ltb n (count_by (watches_share q.share) s.rows)

module _ (s : State) (q : Quote) (n : ℕ) where
  by_places : (b : Bool) → None ≡ first_fault (quote_checks s.market q) → crowds s q n ≡ b → first_fault (quote_call_checks s q n) ≡ cond b (Some fault.Places) None
  by_places b pass e =
      all_pass (under fault.Market (quote_checks s.market q)) (check (crowds s q n) fault.Places ∷ []) (ap (option_map fault.Market) pass ∙ sym (under_first fault.Market (quote_checks s.market q)))
      ∙ ap (λ z. cond z (Some fault.Places) None) e

  pub quote_crowded : (su : Setup) → None ≡ first_fault (quote_checks s.market q) → crowds s q n ≡ true → (s, refused (by_book fault.Places)) ≡ step su s (single (quoting q n))
  quote_crowded su pass e = sym (ap (λ x. decided su s (quoting q n) (option_map by_book x)) (by_places true pass e))

-- the same of the rows of a book
pub crowds_seen : {C : Type 0} (means : C → Meaning) (mk : Market) (q : Quote) (n : ℕ) (xs : List (Row C)) (b : Bool) → b ≡ (eqb q.phase continuous && ltb n (count_by (watches_now q.share) xs))
    → crowds (record { market = mk; rows = rows_view means mk xs }) q n ≡ b
crowds_seen means mk q n xs b e = ap (λ w. eqb q.phase continuous && ltb n w) (sym (watching_seen means q.share mk xs)) ∙ sym e

-- a share whose quote the market takes is listed
known_by : (b x : Bool) (f g : MarketFault) (rest : Option MarketFault) → None ≡ cond b (Some f) (cond (not x) (Some g) rest) → x ≡ true
known_by true x f g rest e = cc
known_by false true f g rest e = refl
known_by false false f g rest e = cc

quote_known : (mk : Market) (q : Quote) → None ≡ first_fault (quote_checks mk q) → is_some (mk q.share) ≡ true
quote_known mk q e = known_by (ltb greatest_share q.share) (is_some (mk q.share)) market.Share market.NotListed _ e

-- a tick comes in continuous trading
tick_by : (b : Bool) (q : Quote) (o : Option Price) (k : Tick) → Some k ≡ cond b (option_map (λ p. record { moment = q.moment; price = p }) o) None → b ≡ true
tick_by true q o k e = refl
tick_by false q o k e = cc

tick_continuous : (q : Quote) (k : Tick) → Some k ≡ quote_tick q → eqb q.phase continuous ≡ true
tick_continuous q k e = tick_by (eqb q.phase continuous) q (priced q.levels.last) k e

-- xs are the rows before a quote that the market takes, and mk₂ is the market after it
module _ {C : Type 0} (means : C → Meaning) (su : Setup) (mk mk₂ : Market) (q : Quote) (n : ℕ) (xs : List (Row C)) (pass : None ≡ first_fault (quote_checks mk q)) (after : mk₂ ≡ quote_market q mk)
    (free : crowds (record { market = mk; rows = rows_view means mk xs }) q n ≡ false) where
  abbrev before : State
  before = record { market = mk; rows = rows_view means mk xs }

  granted : (rows : List Standing) (slips : List Slip) → rows ≡ rows_after su.limit mk (quoting q n) before.rows → slips ≡ slips_after su.limit mk (quoting q n) before.rows
      → (record { market = quote_market q mk; rows = rows }, wrote slips) ≡ step su before (single (quoting q n))
  granted rows slips r w =
      ap₂ (λ a b. (record { market = quote_market q mk; rows = a }, wrote b)) (r ∙ sym (append-nil (rows_after su.limit mk (quoting q n) before.rows))) w
      ∙ sym (ap (λ x. decided su before (quoting q n) (option_map by_book x)) (by_places before q n false pass free))

  -- one that is no tick
  pub quote_silent : None ≡ quote_tick q → (record { market = mk₂; rows = rows_view means mk₂ xs }, wrote []) ≡ step su before (single (quoting q n))
  quote_silent none =
      let known = quote_known mk q pass in
      ap (λ m. (record { market = m; rows = rows_view means m xs }, wrote [])) after
      ∙ granted (rows_view means (quote_market q mk) xs) [] (sym (silent_rows means mk q su.limit n known (sym none) xs)) (sym (silent_slips means mk q su.limit n known (sym none) xs))

  -- one that is a tick: ys are the rows that stay
  module _ (k : Tick) (some : Some k ≡ quote_tick q) where
    pub tick_room : count_by (watches_share q.share) (rows_view means mk₂ xs) ≤ n
    tick_room =
        let w : ℕ = count_by (watches_share q.share) (rows_view means mk xs) in
        let c : w ≤ n = ltb-false n w (sym (ap (λ b. b && ltb n w) (tick_continuous q k some)) ∙ free) in
        omega (arith, c, watching_seen means q.share mk₂ xs, watching_seen means q.share mk xs)

    abbrev written : List Slip
    written = ticked_slips q.share su.limit k (rows_view means mk₂ xs)

    tick_count : (w : ℕ) → w ≡ length written → w ≤ n
    tick_count w e = omega (arith, e, ticked_slips_few q.share su.limit k (rows_view means mk₂ xs), tick_room)

    -- the first w places hold its slips, and those after them what they held
    pub quote_ticked : (ys : List (Row C)) (w : ℕ) (places rest : List Slip) → rows_view means mk₂ ys ≡ ticked_rows q.share su.limit k (rows_view means mk₂ xs) → w ≡ length written → places ≡ written ++ rest
        → ((record { market = mk₂; rows = rows_view means mk₂ ys }, wrote (take w places)) ≡ step su before (single (quoting q n))) × (w ≤ n) × (drop w places ≡ rest)
    quote_ticked ys w places rest rows long filled =
        let known = quote_known mk q pass in (
          ap₂ (λ a b. (record { market = mk₂; rows = a }, wrote b)) rows (ap (take w) filled ∙ take_at written rest w (sym long))
              ∙ ap (λ m. (record { market = m; rows = ticked_rows q.share su.limit k (rows_view means m xs) }, wrote (ticked_slips q.share su.limit k (rows_view means m xs)))) after
              ∙ granted _ _ (sym (quote_rows means mk q su.limit n known k (sym some) xs)) (sym (quote_slips means mk q su.limit n known k (sym some) xs)),
          tick_count w long,
          ap (drop w) filled ∙ drop_at written rest w (sym long),
        )
