-- The first fault of checks of which some stand before the others.
use Rattle.std.proofs.Common.{◌≡◌, ℕ, Bool, true, false, cond, List, [], ◌∷◌, ◌++◌, map, Some, None, sym, refl, ap, ◌∙◌}
use mathlib.Core.List.{map-append}
use Rattle.std.specs.Option.{option_or}
use Rattle.rules.specs.Checks.{Check, first_fault}
use Rattle.rules.specs.Market.{level_check}

module _ {F : Type 0} where
  first_both : (cs ds : List (Check F)) → first_fault (cs ++ ds) ≡ option_or (first_fault cs) (first_fault ds)
  first_both [] ds = refl
  first_both (c ∷ cs) ds = go c.fails (first_both cs ds)
    where
      go : (b : Bool) → first_fault (cs ++ ds) ≡ option_or (first_fault cs) (first_fault ds) → cond b (Some c.fault) (first_fault (cs ++ ds)) ≡ option_or (cond b (Some c.fault) (first_fault cs)) (first_fault ds)
      go true h = refl
      go false h = h

  pub all_pass : (cs ds : List (Check F)) → None ≡ first_fault cs → first_fault (cs ++ ds) ≡ first_fault ds
  all_pass cs ds e = first_both cs ds ∙ ap (λ o. option_or o (first_fault ds)) (sym e)

  pub one_stops : (cs ds : List (Check F)) (g : F) → Some g ≡ first_fault cs → first_fault (cs ++ ds) ≡ Some g
  one_stops cs ds g e = first_both cs ds ∙ ap (λ o. option_or o (first_fault ds)) (sym e)

-- the levels of one side before the other's
pub both_sides : (xs ys : List ℕ) → first_fault (map level_check (xs ++ ys)) ≡ option_or (first_fault (map level_check xs)) (first_fault (map level_check ys))
both_sides xs ys = ap first_fault (map-append level_check xs ys) ∙ first_both (map level_check xs) (map level_check ys)
