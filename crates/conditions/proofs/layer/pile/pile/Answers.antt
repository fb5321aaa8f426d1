use Rattle.conditions.proofs.Piling.{piles_lawful}
use Rattle.conditions.proofs.layer.pile.pile.Goals as goal

pub returns-clause-lawful : goal.returns-clause-lawful
returns-clause-lawful g c = piles_lawful
