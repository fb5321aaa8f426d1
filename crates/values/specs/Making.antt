-- What making a checked number answers, and the numbers of its refusals.
use Rattle.std.specs.Prelude.{ℕ, cond, Ok, Err, Result}
use Rattle.std.specs.Result.{result_map_both}
use Rattle.values.specs.Bounds.{within}
use Rattle.values.specs.declared.fault.MakingFault.{MakingFault}
use Rattle.values.specs.declared.fault.MakingFault.TheVariants as fault

abbrev pub making_number : MakingFault → ℕ
making_number fault.Price = 1
making_number fault.StopTarget = 1
making_number fault.ProfitTarget = 1
making_number fault.Step = 2
making_number fault.Range = 3
making_number fault.Hold = 4
making_number fault.Days = 5
making_number fault.Limit = 7

-- an answer with what was made replaced by how it is seen; the fault stays
abbrev pub seen : {X Y : Type 0} → (X → Y) → Result X MakingFault → Result Y MakingFault
seen view r = result_map_both view (λ f. f) r

-- a number that lies from low to high, or else the fault
abbrev pub checked : ℕ → ℕ → MakingFault → ℕ → Result ℕ MakingFault
checked low high f n = cond (within low high n) (Ok n) (Err f)
