use Rattle.std.proofs.Common.{refl, ap}
use Rattle.std.proofs.lemmas.List.{length-set}
use Rattle.rules.specs.Machine.{Order}
use Rattle.market.specs.View.{market_of}
use Rattle.book.specs.View.{row_view, view, setup_of}
use Rattle.book.proofs.Placed.{unfree, bad_share, bad_amount, bad_choice, lapses, granted, leaves, stays_on, one_more}
use Rattle.book.proofs.book.Book.place.Goals as goal

pub returns-in_err-check_free : goal.returns-in_err-check_free
returns-in_err-check_free g c =
    let b = c.args.self.now in
    let m = g.C.Condition.meaning in
    let mk = market_of c.args.market.now.shares in
    let o : Order = record { terms = c.args.terms; meaning = m c.args.condition } in
    let exit = c.from_residual in
    record {
      is_step = unfree (setup_of b) (view m mk b) o exit.result _ exit.ensures.1 (c.in_err-check_free.ensures.answer mk);
      setup = refl {a = setup_of b};
    }

pub returns-in_err-day : goal.returns-in_err-day
returns-in_err-day g c =
    let b = c.args.self.now in
    let m = g.C.Condition.meaning in
    let mk = market_of c.args.market.now.shares in
    let o : Order = record { terms = c.args.terms; meaning = m c.args.condition } in
    let exit = c.from_residual-in_err-day in
    record {
      is_step = bad_share (setup_of b) (view m mk b) o exit.result _ exit.ensures.1
          (c.in_ok-check_free.ensures.answer mk)
          c.in_err-day.ensures.answer;
      setup = refl {a = setup_of b};
    }

pub returns-in_err-check_amounts : goal.returns-in_err-check_amounts
returns-in_err-check_amounts g c =
    let b = c.args.self.now in
    let m = g.C.Condition.meaning in
    let mk = market_of c.args.market.now.shares in
    let o : Order = record { terms = c.args.terms; meaning = m c.args.condition } in
    let exit = c.from_residual-in_err-check_amounts in
    record {
      is_step = bad_amount (setup_of b) (view m mk b) o exit.result _ exit.ensures.1
          (c.in_ok-check_free.ensures.answer mk)
          c.in_ok-day.ensures.answer
          c.in_err-check_amounts.ensures;
      setup = refl {a = setup_of b};
    }

pub returns-in_err-check_choice : goal.returns-in_err-check_choice
returns-in_err-check_choice g c =
    let b = c.args.self.now in
    let m = g.C.Condition.meaning in
    let mk = market_of c.args.market.now.shares in
    let o : Order = record { terms = c.args.terms; meaning = m c.args.condition } in
    let exit = c.from_residual-in_err-check_choice in
    record {
      is_step = bad_choice (setup_of b) (view m mk b) o exit.result _ exit.ensures.1
          (c.in_ok-check_free.ensures.answer mk)
          c.in_ok-day.ensures.answer
          c.in_ok-check_amounts.ensures
          c.in_err-check_choice.ensures;
      setup = refl {a = setup_of b};
    }

pub returns-then-not-tell_day : goal.returns-then-not-tell_day
returns-then-not-tell_day g c =
    let b = c.args.self.now in
    let m = g.C.Condition.meaning in
    let mk = market_of c.args.market.now.shares in
    let o : Order = record { terms = c.args.terms; meaning = m c.args.condition } in
    let d = c.in_ok-day.day in
    record {
      is_step = lapses (setup_of b) (view m mk b) o
          (c.in_ok-check_free.ensures.answer mk)
          c.in_ok-day.ensures.answer
          c.in_ok-check_amounts.ensures
          c.in_ok-check_choice.ensures
          d
          c.in_ok-day.ensures.day
          (leaves m mk c.args.terms c.args.condition d (row_view m mk c.tell_day.new.self) c.new-row.result c.new-row.ensures c.tell_day.result c.if-not-tell_day.true (c.tell_day.ensures mk));
      setup = refl {a = setup_of b};
    }

pub returns : goal.returns
returns g c =
    let b = c.args.self.now in
    let m = g.C.Condition.meaning in
    let mk = market_of c.args.market.now.shares in
    let o : Order = record { terms = c.args.terms; meaning = m c.args.condition } in
    let d = c.in_ok-day.day in
    let row = c.tell_day.new.self in
    let on = stays_on m mk c.args.terms c.args.condition d (row_view m mk row) c.new-row.result c.new-row.ensures c.tell_day.result c.if-not-tell_day.false (c.tell_day.ensures mk) in
    record {
      is_step = granted (setup_of b) (view m mk b) o
          (c.in_ok-check_free.ensures.answer mk)
          c.in_ok-day.ensures.answer
          c.in_ok-check_amounts.ensures
          c.in_ok-check_choice.ensures
          d
          c.in_ok-day.ensures.day
          _
          on.0
          (one_more (row_view m mk) b.rows.now b.count row _ c.in_ok-check_free.ensures.row on.1);
      setup = ap (λ l. record { rows = l; limit = b.limit.value; book = b.number }) (length-set b.rows.now b.count row);
    }
