-- What own events leave of an order's machine, by the prices that they leave in the market.
use Rattle.std.proofs.Common.{◌≡◌, ℕ, Bool, true, false, cond, ◌&&◌, ◌||◌, eqb, List, [], ◌∷◌, Some, None, Option, sym, refl, ap, ◌∙◌, append-nil}
use Rattle.std.specs.Option.{option_map}
use Rattle.std.proofs.lemmas.Bool.{eqb-true}
use Rattle.values.specs.Prices.{priced}
use Rattle.conditions.specs.Meaning.{Meaning}
use Rattle.conditions.specs.declared.event.Day.{Day}
use Rattle.conditions.specs.declared.event.Event.TheVariants as event
use Rattle.conditions.specs.declared.event.Tick.{Tick}
use Rattle.rules.specs.Bearing.{own_days, own_quotes}
use Rattle.rules.specs.Bounds.{continuous}
use Rattle.rules.specs.Machine.{Notes, Machine, Left, watching, waiting, silent, told, priced_now, with_prices, quoted, machine_step, writes, runs}
use Rattle.rules.specs.OwnEvents.{Own, own_watched_day, own_traded_day, own_quote}
use Rattle.rules.specs.declared.opening.Opening.{Opening}
use Rattle.rules.specs.declared.order.Terms.{Terms}
use Rattle.rules.specs.declared.quote.Levels.{Levels}
use Rattle.rules.specs.declared.quote.Quote.{Quote}
use Rattle.rules.specs.declared.state.OrderState.{OrderState}
use Rattle.rules.specs.declared.state.OrderState.TheVariants as state
use Rattle.book.specs.Turning.{quote_tick, machine_ticked, machine_dayed}
use Rattle.book.specs.View.{machine_in}

pub cond_same : {A : Type 0} (b : Bool) (x : A) → cond b x x ≡ x
cond_same true x = refl
cond_same false x = refl

-- the machine after own events, and the slips that it wrote
abbrev pub own_left : Terms → ℕ → Option Machine → List Own → Left
own_left t limit s es = record { machine = runs t limit s es; slips = writes t limit s es }

-- one own event, or none
own_one : (t : Terms) (limit : ℕ) (s : Option Machine) (e : Own) (b : Bool) → own_left t limit s (cond b (e ∷ []) []) ≡ cond b (machine_step t limit s e) (silent s)
own_one t limit s e true = λ i. record { machine = (machine_step t limit s e).machine; slips = append-nil (machine_step t limit s e).slips i }
own_one t limit s e false = refl

-- a quote, once the prices are those of the market
abbrev pub heard : Terms → ℕ → Option Tick → Option Machine → Left
heard t limit x None = silent None
heard t limit x (Some s) = quoted t limit s.waits x s.meaning s.notes

pub heard_tick : (t : Terms) (limit : ℕ) (k : Tick) (s : Option Machine) → heard t limit (Some k) s ≡ machine_ticked t limit k s
heard_tick t limit k None = refl
heard_tick t limit k (Some s) = refl

no_tick : (t : Terms) (limit : ℕ) (w : Bool) (m : Meaning) (n : Notes) → quoted t limit w None m n ≡ silent (Some (record { meaning = m; waits = w; notes = n }))
no_tick t limit true m n = refl
no_tick t limit false m n = refl

pub heard_nothing : (t : Terms) (limit : ℕ) (s : Option Machine) → heard t limit None s ≡ silent s
heard_nothing t limit None = refl
heard_nothing t limit (Some s) = no_tick t limit s.waits s.meaning s.notes

-- only who watches the share hears its quote
abbrev pub heard_by : Bool → Terms → ℕ → Option Tick → Option Machine → Left
heard_by w t limit x s = cond w (heard t limit x s) (silent s)

-- the traded share's prices after a quote
abbrev pub quote_prices : Quote → Terms → Option Levels → Option Levels
quote_prices q t p = cond (eqb q.share t.traded) (Some q.levels) p

-- by whether it is a quote of the watched share, and of the traded
quote_cases : (t : Terms) (limit : ℕ) (q : Quote) (s : Machine) (w d : Bool) → let p : Option Levels = cond d (Some q.levels) s.notes.prices in
    cond (w || d) (quoted t limit s.waits (cond (w && eqb q.phase continuous) (option_map (λ x. record { moment = q.moment; price = x }) (priced q.levels.last)) None) s.meaning (priced_now p s.notes)) (silent (Some s))
    ≡ heard_by w t limit (quote_tick q) (Some (with_prices p s))
quote_cases t limit q s true d = refl
quote_cases t limit q s false true = no_tick t limit s.waits s.meaning (priced_now (Some q.levels) s.notes)
quote_cases t limit q s false false = refl

quote_machine : (t : Terms) (limit : ℕ) (q : Quote) (s : Machine)
    → own_left t limit (Some s) (own_quotes t q) ≡ heard_by (eqb q.share t.watched) t limit (quote_tick q) (Some (with_prices (quote_prices q t s.notes.prices) s))
quote_machine t limit q s =
    own_one t limit (Some s) (own_quote q) (eqb q.share t.watched || eqb q.share t.traded)
    ∙ quote_cases t limit q s (eqb q.share t.watched) (eqb q.share t.traded)

pub quote_state : (t : Terms) (limit : ℕ) (q : Quote) (st : OrderState) (m : Meaning) (n : Notes)
    → own_left t limit (machine_in st m n) (own_quotes t q) ≡ heard_by (eqb q.share t.watched) t limit (quote_tick q) (machine_in st m (priced_now (quote_prices q t n.prices) n))
quote_state t limit q state.Watching m n = quote_machine t limit q (watching m n)
quote_state t limit q state.Waiting m n = quote_machine t limit q (waiting m n)
quote_state t limit q state.Claimed m n = quote_machine t limit q (waiting m n)
quote_state t limit q state.EndedUnderClaim m n =
    own_one t limit None (own_quote q) (eqb q.share t.watched || eqb q.share t.traded)
    ∙ cond_same (eqb q.share t.watched || eqb q.share t.traded) (silent None)
    ∙ sym (cond_same (eqb q.share t.watched) (silent None))

-- a day clears the prices where it is the traded share's
abbrev day_prices : Bool → Machine → Machine
day_prices b s = with_prices (cond b None s.notes.prices) s

day_machine : (t : Terms) (limit : ℕ) (o : Opening) (d : Day) (s : Machine) → let x : Machine = day_prices (eqb o.share t.traded) s in
    runs t limit (Some s) (own_days t o (Some d)) ≡ cond (eqb o.share t.watched) (told x (event.Day d)) (Some x)
day_machine t limit o d s = go (eqb o.share t.watched) refl
  where
    go : (w : Bool) → eqb o.share t.watched ≡ w
        → runs t limit (Some s) (cond w (own_watched_day d ∷ []) (cond (eqb o.share t.traded) (own_traded_day o ∷ []) []))
        ≡ cond w (told (day_prices (eqb o.share t.traded) s) (event.Day d)) (Some (day_prices (eqb o.share t.traded) s))
    go true e = ap (λ h. told (day_prices (eqb h t.traded) s) (event.Day d)) (sym (eqb-true o.share t.watched e))
    go false e = elim (eqb o.share t.traded) as (λ b. runs t limit (Some s) (cond b (own_traded_day o ∷ []) []) ≡ Some (day_prices b s)) [ true ↦ refl | false ↦ refl ]

runs_none : (t : Terms) (limit : ℕ) (es : List Own) → runs t limit None es ≡ None
runs_none t limit [] = refl
runs_none t limit (e ∷ es) = runs_none t limit es

pub day_state : (t : Terms) (limit : ℕ) (o : Opening) (d : Day) (st : OrderState) (m : Meaning) (n : Notes) → let x : Option Machine = machine_in st m (priced_now (cond (eqb o.share t.traded) None n.prices) n) in
    runs t limit (machine_in st m n) (own_days t o (Some d)) ≡ cond (eqb o.share t.watched) (machine_dayed d x) x
day_state t limit o d state.Watching m n = day_machine t limit o d (watching m n)
day_state t limit o d state.Waiting m n = day_machine t limit o d (waiting m n)
day_state t limit o d state.Claimed m n = day_machine t limit o d (waiting m n)
day_state t limit o d state.EndedUnderClaim m n = runs_none t limit (own_days t o (Some d)) ∙ sym (cond_same (eqb o.share t.watched) None)
