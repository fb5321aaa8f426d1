use Rattle.kinds.proofs.making.move_of_day.Goals as goal

pub returns : goal.returns
returns g c = simp (c.new-2.ensures, c.new.ensures)
