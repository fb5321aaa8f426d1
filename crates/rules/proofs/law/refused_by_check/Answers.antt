use Rattle.rules.proofs.Books.{one_of_a_number}
use Rattle.rules.proofs.Laws.{refused_by_check, is_answered, book_is_read, refusal_alters_nothing}
use Rattle.rules.proofs.law.refused_by_check.Goals as goal

pub returns : goal.returns
returns c = record { refused = refused_by_check; answered = is_answered; read = book_is_read; numbers = one_of_a_number; unaltered = refusal_alters_nothing }
