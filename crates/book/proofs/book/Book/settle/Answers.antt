use Rattle.std.proofs.Common.{◌≡◌, ℕ, Bool, false, sym, ap, ◌∙◌}
use Rattle.rules.specs.Book.{step}
use Rattle.rules.specs.Calls.{Ticket, settling, single}
use Rattle.book.specs.View.{view, setup_of}
use Rattle.book.proofs.book.Book.settle.Goals as goal

-- a ticket by its parts
ticket_is : (v w : Bool) (a b j k : ℕ) → v ≡ w → a ≡ b → j ≡ k → ◌≡◌ {A = Ticket} (record { void = v; book = a; number = j }) (record { void = w; book = b; number = k })
ticket_is v w a b j k p q r = cc

pub returns : goal.returns
returns g c =
    let b = c.args.self.now in
    let m = g.C.Condition.meaning in
    let void = sym (ap (λ t. t.void) c.spend.ensures) ∙ sym c.is_void.ensures ∙ c.if-is_void.false in
    let book = sym (ap (λ t. t.book) c.spend.ensures) ∙ sym c.book.ensures ∙ c.if-book-self.false in
    let number = sym (ap (λ t. t.number) c.spend.ensures) ∙ sym c.number.ensures in
    λ mk. record {
      is_step = (c.settle_order.ensures mk).is_step ∙ ap (λ t. step (setup_of b) (view m mk b) (single (settling t c.args.fill))) (sym (ticket_is c.args.ticket.void false c.args.ticket.book b.number c.args.ticket.number c.number.result void book number));
      setup = (c.settle_order.ensures mk).setup;
    }
