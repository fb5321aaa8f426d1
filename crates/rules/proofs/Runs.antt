-- An order over a run of calls: its slips, its machine, and the market.
use Rattle.std.proofs.Common.{◌≡◌, ℕ, Bool, true, false, cond, List, [], ◌∷◌, ◌++◌, Option, sym, refl, ap, ◌∙◌, subst, ap₂, arith}
use Rattle.std.proofs.lemmas.Bool.{or_parts}
use Rattle.rules.specs.Bearing.{begins}
use Rattle.rules.specs.Book.{Setup, State, new, standing, step}
use Rattle.rules.specs.Calls.{placing, Call, single}
use Rattle.rules.specs.Machine.{Order, number_of, Machine, writes, runs, new_machine}
use Rattle.rules.specs.Market.{Market, unlisted, day_of}
use Rattle.rules.specs.OwnEvents.{Own}
use Rattle.rules.specs.Trace.{Entry, entry, trace, state_by, granted, market_by, market_from, own_by, owns, placed_in, placed_among, span, bearing, written, own_slips, own_events, claimed_by, claimed_from}
use Rattle.rules.specs.declared.order.Terms.{Terms}
use Rattle.rules.proofs.Granting.{granted_state, granted_stands, quiet_first}
use Rattle.rules.proofs.Numbered.{row, writes_append, runs_append}
use Rattle.rules.proofs.Striking.{writes_to_end}
use Rattle.rules.proofs.Tracks.{Stands, Tracked, tracks, market_tracked}

-- A part of a trace, an entry and the rest come from calls that are parted so.

head_path : {A : Type 0} (x y : A) (xs ys : List A) → x ∷ xs ≡ y ∷ ys → x ≡ y
head_path x y xs ys e = cc

tail_path : {A : Type 0} (x y : A) (xs ys : List A) → x ∷ xs ≡ y ∷ ys → xs ≡ ys
tail_path x y xs ys e = cc

no_nil : {A : Type 0} (x : A) (xs : List A) → [] ≡ x ∷ xs → ⊥
no_nil x xs e = let z : ◌≡◌ {A = ℕ} 0 1 = cc in omega arith

pub parted : (su : Setup) (cs : List Call) (s : State) (before : List Entry) (x : Entry) (later : List Entry) (P : List Entry → Entry → List Entry → Type 0)
    → ((cs₁ : List Call) (c : Call) (cs₂ : List Call) → P (trace su s cs₁) (entry c (step su (state_by su s cs₁) c).1) (trace su (step su (state_by su s cs₁) c).0 cs₂))
    → trace su s cs ≡ before ++ x ∷ later → P before x later
parted su [] s [] x later P h e = absurd (no_nil x later e)
parted su [] s (b ∷ bs) x later P h e = absurd (no_nil b (bs ++ x ∷ later) e)
parted su (c ∷ cs) s [] x later P h e =
    subst (λ y. P [] y later) (head_path _ _ _ _ e) (subst (λ l. P [] (entry c (step su s c).1) l) (tail_path _ _ _ _ e) (h [] c cs))
parted su (c ∷ cs) s (b ∷ bs) x later P h e =
    let y : Entry = entry c (step su s c).1 in
    subst (λ z. P (z ∷ bs) x later) (head_path _ _ _ _ e)
    (parted su cs (step su s c).0 bs x later (λ b' x' l'. P (y ∷ b') x' l') (λ cs₁ c' cs₂. h (c ∷ cs₁) c' cs₂) (tail_path _ _ _ _ e))

-- the slips of an order over a run
abbrev WritesSo : Setup → Order → List Call → Type 0
WritesSo su o cs =
    (s : State) (m : Option Machine) (b : Bool) → Stands o s m b
    → let xs : List Entry = span (number_of o) (trace su s cs) in written (number_of o) xs ≡ writes o.terms su.limit m (owns o.terms s.market xs)

follow_one : (su : Setup) (o : Order) (c : Call) (cs : List Call) → WritesSo su o cs → (s : State) (m : Option Machine) (b : Bool) → Stands o s m b
    → (p : Bool) → placed_in (number_of o) (entry c (step su s c).1) ≡ p
    → let xs : List Entry = cond p [] (entry c (step su s c).1 ∷ span (number_of o) (trace su (step su s c).0 cs)) in
    written (number_of o) xs ≡ writes o.terms su.limit m (owns o.terms s.market xs)
follow_one su o c cs ih s m b h true e = refl
follow_one su o c cs ih s m b h false e =
    let t : Terms = o.terms in
    let r = (step su s c).1 in
    let s' : State = (step su s c).0 in
    let xs : List Entry = span (number_of o) (trace su s' cs) in
    let es : List Own = own_by o.terms s.market c r in
    let k : Tracked su.limit o s m b s' (entry c r) = tracks su o s c m b h e in
    ap₂ ◌++◌ k.slips (ih s' (runs t su.limit m es) _ k.stands ∙ ap (λ y. writes t su.limit (runs t su.limit m es) (owns o.terms y xs)) (market_tracked su s c))
    ∙ sym (writes_append t su.limit m es (owns o.terms (market_by c r s.market) xs))

pub follow : (su : Setup) (o : Order) (cs : List Call) → WritesSo su o cs
follow su o [] s m b h = refl
follow su o (c ∷ cs) s m b h = follow_one su o c cs (follow su o cs) s m b h (placed_in (number_of o) (entry c (step su s c).1)) refl

-- the machine of an order over a run in which no other of its number is granted
pub hold : (su : Setup) (o : Order) (cs : List Call) (s : State) (m : Option Machine) (b : Bool) → Stands o s m b → placed_among (number_of o) (trace su s cs) ≡ false
    → Stands o (state_by su s cs) (runs o.terms su.limit m (owns o.terms s.market (trace su s cs))) (claimed_from (number_of o) b (trace su s cs))
hold su o [] s m b h e = h
hold su o (c ∷ cs) s m b h e =
    let t : Terms = o.terms in
    let k : ℕ = number_of o in
    let r = (step su s c).1 in
    let s' : State = (step su s c).0 in
    let xs : List Entry = trace su s' cs in
    let es : List Own = own_by o.terms s.market c r in
    let p = or_parts (placed_in k (entry c r)) (placed_among k xs) e in
    let y : Tracked su.limit o s m b s' (entry c r) = tracks su o s c m b h p.0 in
    hold su o cs s' (runs t su.limit m es) (claimed_by k c r b) y.stands p.1
    ∙ ap (λ z. standing (row o.terms z (claimed_from k b (entry c r ∷ xs))))
    (ap (λ z. runs t su.limit (runs t su.limit m es) (owns o.terms z xs)) (market_tracked su s c) ∙ sym (runs_append t su.limit m es (owns o.terms (market_by c r s.market) xs)))

-- the market as it is read
pub market_read : (su : Setup) (cs : List Call) (s : State) → (state_by su s cs).market ≡ market_from s.market (trace su s cs)
market_read su [] s = refl
market_read su (c ∷ cs) s = market_read su cs (step su s c).0 ∙ ap (λ m. market_from m (trace su (step su s c).0 cs)) (market_tracked su s c)

-- A run in which an order is granted.
module _ (su : Setup) (cs : List Call) (o : Order) (g : granted (step su (state_by su new cs) (single (placing o))).1 ≡ true) where
  abbrev pub then : State
  then = (step su (state_by su new cs) (single (placing o))).0

  abbrev pub first : Option Machine
  first = runs o.terms su.limit (new_machine o) (begins (market_from unlisted (trace su new cs)) o)

  pub market_then : then.market ≡ market_from unlisted (trace su new cs)
  market_then = ap (λ x. x.market) (granted_state su (state_by su new cs) (placing o) g) ∙ market_read su cs new

  pub stands_then : Stands o then first false
  stands_then =
      subst (λ m. Stands o then (runs o.terms su.limit (new_machine o) (begins m o)) false) (market_read su cs new) (granted_stands su (state_by su new cs) o g)

  writes_bearing : (xs : List Entry) → let m : Market = market_from unlisted (trace su new cs) in
      writes o.terms su.limit first (owns o.terms m xs) ≡ writes o.terms su.limit (new_machine o) (bearing (trace su new cs) o xs)
  writes_bearing xs =
      let m : Market = market_from unlisted (trace su new cs) in
      let es : List Own = owns o.terms m xs in
      sym (ap (λ ss. ss ++ writes o.terms su.limit first es) (quiet_first o su.limit m (day_of (m o.terms.watched))))
      ∙ sym (writes_append o.terms su.limit (new_machine o) (begins m o) es)

  pub slips_granted : (later : List Call) → own_slips o (trace su then later) ≡ writes o.terms su.limit (new_machine o) (own_events su.limit (trace su new cs) o (trace su then later))
  slips_granted later =
      let xs : List Entry = span (number_of o) (trace su then later) in
      follow su o later then first false stands_then
      ∙ ap (λ m. writes o.terms su.limit first (owns o.terms m xs)) market_then
      ∙ writes_bearing xs
      ∙ writes_to_end o.terms su.limit (new_machine o) (bearing (trace su new cs) o xs)

  pub stands_granted : (between : List Call) → placed_among (number_of o) (trace su then between) ≡ false
      → Stands o (state_by su then between) (runs o.terms su.limit (new_machine o) (bearing (trace su new cs) o (trace su then between))) (claimed_from (number_of o) false (trace su then between))
  stands_granted between e =
      let xs : List Entry = trace su then between in
      let m : Market = market_from unlisted (trace su new cs) in
      hold su o between then first false stands_then e
      ∙ ap (λ y. standing (row o.terms y (claimed_from (number_of o) false xs)))
      (ap (λ z. runs o.terms su.limit first (owns o.terms z xs)) market_then ∙ sym (runs_append o.terms su.limit (new_machine o) (begins m o) (owns o.terms m xs)))
