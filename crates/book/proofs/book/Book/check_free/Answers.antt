use Rattle.std.proofs.Common.{sym, ap, ◌∙◌, is_some}
use Rattle.book.specs.View.{row_view, view, setup_of, orders_of}
use Rattle.book.proofs.Placed.{in_book, no_row, is_free, seen}
use Rattle.book.proofs.Places.{borne}
use Rattle.book.proofs.book.Book.check_free.Goals as goal

pub returns-then-is_some-clause-answer : goal.returns-then-is_some-clause-answer
returns-then-is_some-clause-answer g c mk =
    let b = c.args.self.now in
    let f = row_view g.C.Condition.meaning mk in
    in_book (setup_of b) (view g.C.Condition.meaning mk b) c.args.number c.if-number-eq0.false
    (borne f c.args.number (orders_of b) ∙ ap is_some (sym c.place_of.ensures.place) ∙ sym c.if-is_some.ensures)

pub returns-then-self-room-clause-answer : goal.returns-then-self-room-clause-answer
returns-then-self-room-clause-answer g c mk =
    let b = c.args.self.now in
    let f = row_view g.C.Condition.meaning mk in
    no_row (setup_of b) (view g.C.Condition.meaning mk b) c.args.number c.if-number-eq0.false b.count c.room.result (seen f b.rows.now b.count b.within) c.room.ensures
    (borne f c.args.number (orders_of b) ∙ ap is_some (sym c.place_of.ensures.place) ∙ sym c.if-is_some.ensures)
    c.if-self-room.true

pub returns-clause-answer : goal.returns-clause-answer
returns-clause-answer g c mk =
    let b = c.args.self.now in
    let f = row_view g.C.Condition.meaning mk in
    is_free (setup_of b) (view g.C.Condition.meaning mk b) c.args.number c.if-number-eq0.false b.count c.room.result (seen f b.rows.now b.count b.within) c.room.ensures
    (borne f c.args.number (orders_of b) ∙ ap is_some (sym c.place_of.ensures.place) ∙ sym c.if-is_some.ensures)
    c.if-self-room.false
