-- Checks in the order in which they run: a refusal is the fault of the first that fails.
use Rattle.std.specs.Prelude.{Bool, cond, List, [], ◌∷◌, map, Some, None, Option}

pub record Check (F : Type 0) : Type 0 where
  pub fails : Bool
  pub fault : F

abbrev pub check : {F : Type 0} → Bool → F → Check F
check b f = record { fails = b; fault = f }

abbrev pub first_fault : {F : Type 0} → List (Check F) → Option F
first_fault [] = None
first_fault (c ∷ cs) = cond c.fails (Some c.fault) (first_fault cs)

-- the same checks for a layer above, whose fault holds the lower one whole
abbrev pub under : {F G : Type 0} → (F → G) → List (Check F) → List (Check G)
under hold cs = map (λ c. check c.fails (hold c.fault)) cs
