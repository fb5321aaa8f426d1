-- Held answers its meaning and keeps the repeat law.
use Rattle.std.specs.Prelude.{◌≡◌, ℕ, ◌+◌, ◌≤◌, Bool, true, false, cond, ◌&&◌, ◌||◌, List, [], ◌∷◌, ◌++◌, is_some, Some, None, Option, nat_le, nat_lt, refl}
use Rattle.std.proofs.Common.{ap, ◌∙◌, sym, arith}
use Rattle.std.proofs.Math.Bool.{and-false, and-true, or-false}
use Rattle.std.proofs.Math.Path.{fun_ext}
use Rattle.std.proofs.lemmas.Bool.Decides.{nat_tests}
use Rattle.values.specs.declared.price.Price.{Price}
use Rattle.conditions.specs.Meaning.{Meaning, after, ends, fires_over, Repeats, Proper}
use Rattle.kinds.specs.Holds.{today, all_yes, some_start, start_before, held_at, held_in, held_means, earliest, since_next, long_enough}
use Rattle.conditions.specs.declared.event.Day.{Day}
use Rattle.conditions.specs.declared.event.Tick.{Tick}
use Rattle.conditions.specs.declared.event.Event.{Event}
use Rattle.conditions.specs.declared.event.Event.TheVariants as event
use Rattle.conditions.specs.declared.event.Side.{Side}
use Rattle.conditions.proofs.States.{Rests, lawful}

-- of two moments from which on every tick is a yes, the earlier one lies long enough before a third where one of them does
earlier_of : (x y hold m : ℕ) (a r : Bool) → (nat_le (cond (nat_lt x y) x y + hold) m && a) || r ≡ (nat_le (x + hold) m && a) || ((nat_le (y + hold) m && a) || r)
earlier_of x y hold m a r = grind (arith, nat_tests)

module _ (test : Day → Price → Option Price) (hold : ℕ) (side : Side) where
  abbrev S : Type 0
  S = Option Day × Option ℕ

  abbrev M : S → Meaning
  M s = held_means test hold side s.0 s.1

  abbrev since_told : Option Day → Option ℕ → Tick → Option ℕ
  since_told None since t = since
  since_told (Some d) since t = since_next since t.moment (is_some (test d t.price))

  abbrev told : S → Event → S
  told s (event.Tick t) = (s.0, since_told s.0 s.1 t)
  told s (event.Day d) = (Some d, None)
  told s (event.Settlement p) = s

  -- one tick taken out of the list, into what is known of earlier ticks
  into : (d : Day) (since : Option ℕ) (t : Tick) (ts : List Tick) (m : ℕ) (y : Bool) → is_some (test d t.price) ≡ y
      → start_before test hold d (since_next since t.moment y) ts m || some_start test hold d ts m
      ≡ start_before test hold d since (t ∷ ts) m || some_start test hold d (t ∷ ts) m
  into d None t ts m true e = simp e
  into d (Some s) t ts m true e = simp e (earlier_of s t.moment hold m (all_yes test hold d ts) (some_start test hold d ts m))
  into d None t ts m false e = simp (e, and-false)
  into d (Some s) t ts m false e = simp (e, and-false)

  into_at : (d : Option Day) (since : Option ℕ) (t : Tick) (ts : List Tick) (u : Tick) → held_at test hold d (since_told d since t) ts u ≡ held_at test hold d since (t ∷ ts) u
  into_at None since t ts u = refl
  into_at (Some d) since t ts u = ap (λ b. cond b (test d u.price) None) (into d since t ts u.moment (is_some (test d t.price)) refl)

  carry : (es : List Event) (d : Option Day) (since : Option ℕ) (t : Tick) (ts : List Tick) (u : Tick)
      → held_in test hold (today (record { day = d; since = since_told d since t; ticks = ts }) es) u ≡ held_in test hold (today (record { day = d; since = since; ticks = t ∷ ts }) es) u
  carry [] d since t ts u = into_at d since t ts u
  carry (event.Tick v ∷ es) d since t ts u = carry es d since t (ts ++ v ∷ []) u
  carry (event.Day e ∷ es) d since t ts u = refl
  carry (event.Settlement p ∷ es) d since t ts u = carry es d since t ts u

  steps_at : (s : S) (e : Event) (es : List Event) (x : Event) → M (told s e) es x ≡ M s (e ∷ es) x
  steps_at s (event.Tick t) es (event.Tick u) = ap (fires_over side) (carry es s.0 s.1 t [] u)
  steps_at s (event.Day d) es (event.Tick u) = refl
  steps_at s (event.Settlement p) es (event.Tick u) = refl
  steps_at s e es (event.Day u) = refl
  steps_at s e es (event.Settlement u) = refl

  pub steps : (s : S) (e : Event) → M (told s e) ≡ after (M s) (e ∷ [])
  steps s e = fun_ext (λ es. fun_ext (steps_at s e es))

  start_now : (d : Day) (since : Option ℕ) (m : ℕ) → start_before test hold d since [] m || false ≡ long_enough hold since m
  start_now d None m = refl
  start_now d (Some s) m = or-false (nat_le (s + hold) m && true) ∙ and-true (nat_le (s + hold) m)

  -- the answer to a tick on a day
  now_held : (d : Day) (since : Option ℕ) (t : Tick) → M (Some d, since) [] (event.Tick t) ≡ fires_over side (cond (long_enough hold since t.moment) (test d t.price) None)
  now_held d since t = ap (λ b. fires_over side (cond b (test d t.price) None)) (start_now d since t.moment)

  module _ (positive : 1 ≤ hold) where
    -- a run that was not long enough is not with the same moment once more
    short : (since : Option ℕ) (m : ℕ) → long_enough hold since m ≡ false → nat_le (earliest since m + hold) m ≡ false
    short None m e = grind (arith, nat_tests)
    short (Some s) m e = grind (arith, nat_tests)

    again : (since : Option ℕ) (m : ℕ) → earliest (Some (earliest since m)) m ≡ earliest since m
    again None m = grind (arith, nat_tests)
    again (Some s) m = grind (arith, nat_tests)

    not_over : (b : Bool) (p : Price) → ends (fires_over side (cond b (Some p) None)) ≡ false → b ≡ false
    not_over true p e = cc
    not_over false p e = refl

    rests_yes : (d : Day) (since : Option ℕ) (t : Tick) (o : Option Price) → test d t.price ≡ o → ends (fires_over side (cond (long_enough hold since t.moment) o None)) ≡ false
        → Rests M told (Some d, since_next since t.moment (is_some o)) t
    rests_yes d since t None e n =
        record {
          waits = refl;
          stays = simp e;
        }
    rests_yes d since t (Some p) e n =
        let low = short since t.moment (not_over (long_enough hold since t.moment) p n) in
        record {
          waits = now_held d (Some (earliest since t.moment)) t ∙ simp low;
          stays = simp (e, again since t.moment);
        }

    rests_at : (d : Option Day) (since : Option ℕ) (t : Tick) → ends (M (d, since) [] (event.Tick t)) ≡ false → Rests M told (d, since_told d since t) t
    rests_at None since t n = record { waits = refl; stays = refl }
    rests_at (Some d) since t n = rests_yes d since t (test d t.price) refl (ap ends (sym (now_held d since t)) ∙ n)

    rests : (s : S) (t : Tick) → ends (M s [] (event.Tick t)) ≡ false → Rests M told (told s (event.Tick t)) t
    rests s t n = rests_at s.0 s.1 t n

    pub held_repeats : (d : Option Day) (since : Option ℕ) → Repeats (held_means test hold side d since)
    held_repeats d since = lawful M told (record { steps = steps; directly = rests; settled = rests }) (d, since)

  pub held_proper : (d : Option Day) (since : Option ℕ) → Proper (held_means test hold side d since)
  held_proper d since = record { settlements = λ h live p. refl; days = λ h live e. refl }
