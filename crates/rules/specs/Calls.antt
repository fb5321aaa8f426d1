-- The calls, and what they are answered.
use Rattle.std.specs.Prelude.{ℕ, Bool, List, Option}
use Rattle.values.specs.declared.price.Price.{Price}
use Rattle.rules.specs.Machine.{Order}
use Rattle.rules.specs.declared.fault.MarketFault.{MarketFault}
use Rattle.rules.specs.declared.fault.PlacingFault.{PlacingFault}
use Rattle.rules.specs.declared.opening.Opening.{Opening}
use Rattle.rules.specs.declared.quote.Quote.{Quote}
use Rattle.rules.specs.declared.slip.Slip.{Slip}
use Rattle.rules.specs.declared.state.OrderState.{OrderState}

-- what a claim gives: the right to settle, unless it is void
pub record Ticket : Type 0 where
  pub void : Bool
  pub book : ℕ
  pub number : ℕ

-- one call that is granted or refused whole
pub data Single : Type 0 where
  -- a share's closes, the oldest first
  listing : ℕ → List ℕ → Single
  opening : Opening → Single
  placing : Order → Single
  -- a quote, with so many places for slips
  quoting : Quote → ℕ → Single
  -- an order by its number
  cancelling : ℕ → Single
  claiming : ℕ → Single
  -- a ticket with the fill price, or with nothing filled
  settling : Ticket → Option Price → Single
  -- an order's state by its number
  asking : ℕ → Single

pub data Call : Type 0 where
  single : Single → Call
  -- quotes, with so many places for all their slips
  burst : List Quote → ℕ → Call

pub data Refusal : Type 0 where
  by_market : MarketFault → Refusal
  by_book : PlacingFault → Refusal

pub data Reply : Type 0 where
  -- a listing, day, placing, cancel or settlement was let through
  done : Reply
  -- the slips that a quote wrote
  wrote : List Slip → Reply
  -- how many quotes of a burst were taken, the slips that they wrote, and why the next was not, if there is one
  burst_wrote : ℕ → List Slip → Option PlacingFault → Reply
  gives : Ticket → Reply
  -- none for an order that is not in the book
  in_state : Option OrderState → Reply
  refused : Refusal → Reply
