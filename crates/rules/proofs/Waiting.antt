-- Who waits is told nothing, and a quote that comes twice in a row counts once.
use Rattle.std.proofs.Common.{◌≡◌, ℕ, true, false, cond, eqb, List, [], ◌∷◌, ◌++◌, Some, None, refl, ap}
use Rattle.std.proofs.lemmas.Bool.{and_from, cond-true, eq-eqb}
use Rattle.conditions.specs.Meaning.{Meaning, after, ends}
use Rattle.conditions.specs.declared.event.Event.{Event}
use Rattle.conditions.specs.declared.event.Event.TheVariants as event
use Rattle.rules.specs.Law.{WaitsSilently, RepeatsStruck}
use Rattle.rules.specs.Machine.{Notes, waiting, told, priced_now, writes}
use Rattle.rules.specs.OwnEvents.{Own, own_placing, own_watched_day, own_traded_day, own_quote, own_settlement, own_cancel, same_numbers, same_levels, same_quote, repeats, struck_after}
use Rattle.rules.specs.declared.order.Terms.{Terms}
use Rattle.rules.specs.declared.quote.Levels.{Levels}
use Rattle.rules.specs.declared.quote.Quote.{Quote}
use Rattle.rules.proofs.Striking.{writes_none}

silent_told : (t : Terms) (limit : ℕ) (m : Meaning) (n : Notes) (e : Event) (es : List Own) → writes t limit (Some (waiting (after m (e ∷ [])) n)) es ≡ [] → writes t limit (told (waiting m n) e) es ≡ []
silent_told t limit m n e es h =
    elim (ends (m [] e)) as (λ b. writes t limit (cond b None (Some (waiting (after m (e ∷ [])) n))) es ≡ []) [ true ↦ writes_none t limit es | false ↦ h ]

pub waits_silently : WaitsSilently
waits_silently t limit m n [] h = refl
waits_silently t limit m n (own_placing d x ∷ es) h = silent_told t limit m (priced_now x n) (event.Day d) es (waits_silently t limit (after m (event.Day d ∷ [])) (priced_now x n) es h)
waits_silently t limit m n (own_watched_day d ∷ es) h =
    let n' : Notes = priced_now (cond (eqb t.watched t.traded) None n.prices) n in
    silent_told t limit m n' (event.Day d) es (waits_silently t limit (after m (event.Day d ∷ [])) n' es h)
waits_silently t limit m n (own_traded_day d ∷ es) h = waits_silently t limit m (priced_now None n) es h
waits_silently t limit m n (own_quote q ∷ es) h = waits_silently t limit m (priced_now (cond (eqb q.share t.traded) (Some q.levels) n.prices) n) es h
waits_silently t limit m n (own_settlement f ∷ es) h = absurd h
waits_silently t limit m n (own_cancel ∷ es) h = writes_none t limit es

-- a quote is equal to itself
same_itself : (xs : List ℕ) → same_numbers xs xs ≡ true
same_itself [] = refl
same_itself (x ∷ xs) = and_from (eqb x x) (same_numbers xs xs) (eq-eqb x x refl) (same_itself xs)

levels_itself : (a : Levels) → same_levels a a ≡ true
levels_itself a = and_from _ _ (eq-eqb a.last a.last refl) (and_from _ _ (same_itself a.bids) (same_itself a.asks))

quote_itself : (q : Quote) → same_quote q q ≡ true
quote_itself q =
    and_from _ _ (eq-eqb q.share q.share refl)
    (and_from _ _ (eq-eqb q.phase q.phase refl) (and_from _ _ (eq-eqb q.moment q.moment refl) (levels_itself q.levels)))

twice : (q : Quote) (more : List Own) → struck_after (own_quote q) (own_quote q ∷ more) ≡ struck_after (own_quote q) more
twice q more = cond-true (same_quote q q) _ _ (quote_itself q)

struck_twice : (p : Own) (es more : List Own) (q : Quote) → struck_after p (es ++ own_quote q ∷ own_quote q ∷ more) ≡ struck_after p (es ++ own_quote q ∷ more)
struck_twice p [] more q = ap (λ x. cond (repeats p (own_quote q)) x (own_quote q ∷ x)) (twice q more)
struck_twice p (e ∷ es) more q = ap (λ x. cond (repeats p e) x (e ∷ x)) (struck_twice e es more q)

pub repeats_struck : RepeatsStruck
repeats_struck [] more q = ap (λ x. own_quote q ∷ x) (twice q more)
repeats_struck (e ∷ es) more q = ap (λ x. e ∷ x) (struck_twice e es more q)
