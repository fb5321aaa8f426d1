-- What a call does to the rows in the market before it, by the rows in the market after it: a row's prices stand in the market.
use Rattle.std.proofs.Common.{◌≡◌, ℕ, ◌+◌, Bool, true, false, cond, ◌&&◌, eqb, List, [], ◌∷◌, ◌++◌, map, is_some, Some, None, count_by, Option, sym, refl, ap, ◌∙◌, ap₂}
use Rattle.std.specs.List.{flat_map}
use Rattle.std.proofs.lemmas.List.Sums.{sum_by-cons}
use Rattle.std.proofs.lemmas.Bool.{false≢true, eqb-true}
use Rattle.values.specs.Prices.{priced}
use Rattle.values.specs.declared.price.Price.{Price}
use Rattle.conditions.specs.Meaning.{Meaning}
use Rattle.conditions.specs.declared.event.Day.{Day}
use Rattle.conditions.specs.declared.event.Tick.{Tick}
use Rattle.rules.specs.Bearing.{own_days, own_quotes}
use Rattle.rules.specs.Book.{watches, watches_share, standing, rows_after, slips_after}
use Rattle.rules.specs.Book.{Row as Standing}
use Rattle.rules.specs.Calls.{opening, quoting}
use Rattle.rules.specs.Machine.{Notes, Machine, Left, silent, priced_now, runs}
use Rattle.rules.specs.Market.{Share, Market, put, day_of, prices_of, listed, on_day, opened, taken}
use Rattle.rules.specs.declared.opening.Opening.{Opening}
use Rattle.rules.specs.declared.order.Terms.{Terms}
use Rattle.rules.specs.declared.quote.Quote.{Quote}
use Rattle.rules.specs.declared.state.OrderState.{OrderState}
use Rattle.rules.specs.declared.state.OrderState.TheVariants as state
use Rattle.book.specs.Turning.{with_machine, quote_tick, ticked_left, ticked_rows, ticked_slips, machine_dayed, dayed_row, dayed_rows}
use Rattle.book.specs.View.{machine_in, claimed_in, watching_in, watches_now, notes_of, row_view, rows_view}
use Rattle.book.specs.declared.row.Row.{Row}
use Rattle.book.proofs.Places.{eqb_same}
use Rattle.book.proofs.Machines.{cond_same, own_left, heard_tick, heard_nothing, heard_by, quote_prices, quote_state, day_state}

-- lists in a row, from two views of the same elements
joined_same : {A B D : Type 0} (f g : B → List D) (u v : A → B) → ((x : A) → f (u x) ≡ g (v x)) → (xs : List A) → flat_map f (map u xs) ≡ flat_map g (map v xs)
joined_same f g u v h [] = refl
joined_same f g u v h (x ∷ xs) = ap₂ ◌++◌ (h x) (joined_same f g u v h xs)

joined_ones : {A B D : Type 0} (f : B → List D) (u : A → B) (v : A → D) → ((x : A) → f (u x) ≡ v x ∷ []) → (xs : List A) → flat_map f (map u xs) ≡ map v xs
joined_ones f u v h [] = refl
joined_ones f u v h (x ∷ xs) = ap₂ ◌++◌ (h x) (joined_ones f u v h xs)

joined_nothing : {A B D : Type 0} (f : B → List D) (u : A → B) → ((x : A) → f (u x) ≡ []) → (xs : List A) → flat_map f (map u xs) ≡ []
joined_nothing f u h [] = refl
joined_nothing f u h (x ∷ xs) = ap₂ ◌++◌ (h x) (joined_nothing f u h xs)

-- The prices in the market that a call leaves.

put_prices : (h : ℕ) (s : Option Share) (mk : Market) (i : ℕ) → prices_of (put h s mk i) ≡ cond (eqb h i) (prices_of s) (prices_of (mk i))
put_prices h s mk i =
    ap (λ b. prices_of (cond b s (mk i))) (eqb_same i h)
    ∙ (elim (eqb h i) as (λ b. prices_of (cond b s (mk i)) ≡ cond b (prices_of s) (prices_of (mk i))) [ true ↦ refl | false ↦ refl ])

taken_prices : (q : Quote) (s : Option Share) → is_some s ≡ true → prices_of (taken q s) ≡ Some q.levels
taken_prices q None e = absurd (false≢true e)
taken_prices q (Some s) e = refl

on_day_prices : (o : Opening) (closes : List Price) (c u l : Option Price) → prices_of (on_day o closes c u l) ≡ None
on_day_prices o closes None u l = refl
on_day_prices o closes (Some c) None l = refl
on_day_prices o closes (Some c) (Some u) None = refl
on_day_prices o closes (Some c) (Some u) (Some l) = refl

opened_prices : (o : Opening) (s : Option Share) → prices_of (opened o s) ≡ None
opened_prices o None = refl
opened_prices o (Some s) = on_day_prices o s.closes (priced o.close) (priced o.upper) (priced o.lower)

-- The rows of a book.

-- an order of a book stands, since without a machine it is under a claim
view_stands : (t : Terms) (st : OrderState) (m : Meaning) (n : Notes) → let r : Standing = record { terms = t; machine = machine_in st m n; claimed = claimed_in st } in standing r ≡ r ∷ []
view_stands t state.Watching m n = refl
view_stands t state.Waiting m n = refl
view_stands t state.Claimed m n = refl
view_stands t state.EndedUnderClaim m n = refl

watches_same : (st : OrderState) (m : Meaning) (n : Notes) → watching_in st ≡ watches (machine_in st m n)
watches_same state.Watching m n = refl
watches_same state.Waiting m n = refl
watches_same state.Claimed m n = refl
watches_same state.EndedUnderClaim m n = refl

-- the market after a quote, and after a day
abbrev pub quote_market : Quote → Market → Market
quote_market q mk = put q.share (taken q (mk q.share)) mk

abbrev pub day_market : Opening → Market → Market
day_market o mk = put o.share (opened o (mk o.share)) mk

module _ {C : Type 0} (means : C → Meaning) where
  -- who watches a share, in any market
  pub watching_seen : (h : ℕ) (mk : Market) (xs : List (Row C)) → count_by (watches_now h) xs ≡ count_by (watches_share h) (rows_view means mk xs)
  watching_seen h mk [] = refl
  watching_seen h mk (r ∷ xs) =
      sum_by-cons (λ x. cond (watches_now h x) 1 0) r xs
      ∙ ap₂ (λ w n. cond (eqb h r.terms.watched && w) 1 0 + n) (watches_same r.state (means r.condition) (notes_of mk r)) (watching_seen h mk xs)
      ∙ sym (sum_by-cons (λ x. cond (watches_share h x) 1 0) (row_view means mk r) (rows_view means mk xs))

  -- the rows are the same where the prices are
  rows_same : (mk mk₂ : Market) → ((i : ℕ) → prices_of (mk i) ≡ prices_of (mk₂ i)) → (xs : List (Row C)) → rows_view means mk xs ≡ rows_view means mk₂ xs
  rows_same mk mk₂ h [] = refl
  rows_same mk mk₂ h (r ∷ xs) =
      ap₂ (λ p rs. record { terms = r.terms; machine = machine_in r.state (means r.condition) (record { sent = r.sent; market = r.market; prices = p }); claimed = claimed_in r.state } ∷ rs)
      (h r.terms.traded) (rows_same mk mk₂ h xs)

  -- a share that is newly listed has no prices, as before
  pub listed_rows : (mk : Market) (h : ℕ) (closes : List ℕ) → mk h ≡ None → (xs : List (Row C)) → rows_view means (put h (Some (listed closes)) mk) xs ≡ rows_view means mk xs
  listed_rows mk h closes e xs = rows_same (put h (Some (listed closes)) mk) mk (λ i. go i (eqb i h) refl) xs
    where
      go : (i : ℕ) (b : Bool) → eqb i h ≡ b → prices_of (cond b (Some (listed closes)) (mk i)) ≡ prices_of (mk i)
      go i true p = sym (ap prices_of (ap mk (eqb-true i h p) ∙ e))
      go i false p = refl

  module _ (mk : Market) (q : Quote) (limit places : ℕ) (known : is_some (mk q.share) ≡ true) where
    quote_view : (r : Row C) → machine_in r.state (means r.condition) (priced_now (quote_prices q r.terms (prices_of (mk r.terms.traded))) (notes_of mk r)) ≡ (row_view means (quote_market q mk) r).machine
    quote_view r =
        ap (λ p. machine_in r.state (means r.condition) (priced_now p (notes_of mk r)))
        (sym (put_prices q.share (taken q (mk q.share)) mk r.terms.traded
        ∙ ap (λ x. cond (eqb q.share r.terms.traded) x (prices_of (mk r.terms.traded))) (taken_prices q (mk q.share) known)))

    quote_left : (x : Option Tick) → quote_tick q ≡ x → (r : Row C)
        → own_left r.terms limit (row_view means mk r).machine (own_quotes r.terms q) ≡ heard_by (eqb q.share r.terms.watched) r.terms limit x (row_view means (quote_market q mk) r).machine
    quote_left x e r =
        quote_state r.terms limit q r.state (means r.condition) (notes_of mk r)
        ∙ ap₂ (heard_by (eqb q.share r.terms.watched) r.terms limit) e (quote_view r)

    -- a quote that is a tick
    tick_left : (k : Tick) → quote_tick q ≡ Some k → (r : Row C) → own_left r.terms limit (row_view means mk r).machine (own_quotes r.terms q) ≡ ticked_left q.share limit k (row_view means (quote_market q mk) r)
    tick_left k e r =
        quote_left (Some k) e r
        ∙ ap (λ y. cond (eqb q.share r.terms.watched) y (silent (row_view means (quote_market q mk) r).machine)) (heard_tick r.terms limit k (row_view means (quote_market q mk) r).machine)

    pub quote_rows : (k : Tick) → quote_tick q ≡ Some k → (xs : List (Row C))
        → rows_after limit mk (quoting q places) (rows_view means mk xs) ≡ ticked_rows q.share limit k (rows_view means (quote_market q mk) xs)
    quote_rows k e xs =
        joined_same _ _ (row_view means mk) (row_view means (quote_market q mk))
        (λ r. ap (λ (y : Left). standing (with_machine (row_view means mk r) y.machine)) (tick_left k e r)) xs

    pub quote_slips : (k : Tick) → quote_tick q ≡ Some k → (xs : List (Row C))
        → slips_after limit mk (quoting q places) (rows_view means mk xs) ≡ ticked_slips q.share limit k (rows_view means (quote_market q mk) xs)
    quote_slips k e xs = joined_same _ _ (row_view means mk) (row_view means (quote_market q mk)) (λ r. ap (λ (y : Left). y.slips) (tick_left k e r)) xs

    -- a quote that is none
    silent_left : quote_tick q ≡ None → (r : Row C) → own_left r.terms limit (row_view means mk r).machine (own_quotes r.terms q) ≡ silent (row_view means (quote_market q mk) r).machine
    silent_left e r =
        let s : Option Machine = (row_view means (quote_market q mk) r).machine in
        quote_left None e r
        ∙ ap (λ y. cond (eqb q.share r.terms.watched) y (silent s)) (heard_nothing r.terms limit s)
        ∙ cond_same (eqb q.share r.terms.watched) (silent s)

    pub silent_rows : quote_tick q ≡ None → (xs : List (Row C)) → rows_after limit mk (quoting q places) (rows_view means mk xs) ≡ rows_view means (quote_market q mk) xs
    silent_rows e xs =
        joined_ones _ (row_view means mk) (row_view means (quote_market q mk))
        (λ r. ap (λ (y : Left). standing (with_machine (row_view means mk r) y.machine)) (silent_left e r)
        ∙ view_stands r.terms r.state (means r.condition) (notes_of (quote_market q mk) r)) xs

    pub silent_slips : quote_tick q ≡ None → (xs : List (Row C)) → slips_after limit mk (quoting q places) (rows_view means mk xs) ≡ []
    silent_slips e xs = joined_nothing _ (row_view means mk) (λ r. ap (λ (y : Left). y.slips) (silent_left e r)) xs

  module _ (mk : Market) (o : Opening) (d : Day) (limit : ℕ) (known : day_of (opened o (mk o.share)) ≡ Some d) where
    day_view : (r : Row C) → machine_in r.state (means r.condition) (priced_now (cond (eqb o.share r.terms.traded) None (prices_of (mk r.terms.traded))) (notes_of mk r)) ≡ (row_view means (day_market o mk) r).machine
    day_view r =
        ap (λ p. machine_in r.state (means r.condition) (priced_now p (notes_of mk r)))
        (sym (put_prices o.share (opened o (mk o.share)) mk r.terms.traded
        ∙ ap (λ x. cond (eqb o.share r.terms.traded) x (prices_of (mk r.terms.traded))) (opened_prices o (mk o.share))))

    day_row : (r : Row C)
        → standing (with_machine (row_view means mk r) (runs r.terms limit (row_view means mk r).machine (own_days r.terms o (day_of (opened o (mk o.share))))))
        ≡ standing (dayed_row o.share d (row_view means (day_market o mk) r))
    day_row r =
        let s : Standing = row_view means (day_market o mk) r in
        let w : Bool = eqb o.share r.terms.watched in
        ap (λ x. standing (with_machine s x))
        (ap (λ y. runs r.terms limit (row_view means mk r).machine (own_days r.terms o y)) known
        ∙ day_state r.terms limit o d r.state (means r.condition) (notes_of mk r)
        ∙ ap (λ x. cond w (machine_dayed d x) x) (day_view r))
        ∙ (elim w as (λ b. standing (with_machine s (cond b (machine_dayed d s.machine) s.machine)) ≡ standing (cond b (with_machine s (machine_dayed d s.machine)) s)) [ true ↦ refl | false ↦ refl ])

    pub day_rows : (xs : List (Row C)) → rows_after limit mk (opening o) (rows_view means mk xs) ≡ dayed_rows o.share d (rows_view means (day_market o mk) xs)
    day_rows xs = joined_same _ _ (row_view means mk) (row_view means (day_market o mk)) day_row xs
