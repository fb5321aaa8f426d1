use Rattle.book.proofs.Places.{lifted}
use Rattle.book.proofs.book.Book.lift.Goals as goal

pub returns-clause-orders : goal.returns-clause-orders
returns-clause-orders g c =
    let b = c.args.self.now in
    lifted b.rows.now c.rotate_left.new.self c.args.at b.count c.requires b.within c.rotate_left.ensures.after
