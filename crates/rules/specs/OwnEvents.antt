-- What bears on one order, and repeats in it.
use Rattle.std.specs.Prelude.{ℕ, Bool, true, false, cond, ◌&&◌, List, [], ◌∷◌, Option, ◌==◌}
use Rattle.values.specs.declared.price.Price.{Price}
use Rattle.conditions.specs.declared.event.Day.{Day}
use Rattle.rules.specs.declared.opening.Opening.{Opening}
use Rattle.rules.specs.declared.quote.Levels.{Levels}
use Rattle.rules.specs.declared.quote.Quote.{Quote}

pub data Own : Type 0 where
  -- its placing: the watched share's day, and the traded share's latest prices, if any
  own_placing : Day → Option Levels → Own
  -- a day of the watched share, with the sums of its closes
  own_watched_day : Day → Own
  -- a day of the traded share, where that is another one: without sums
  own_traded_day : Opening → Own
  -- a quote of either share
  own_quote : Quote → Own
  -- a settlement, at the fill price if there is one
  own_settlement : Option Price → Own
  own_cancel : Own

abbrev pub same_numbers : List ℕ → List ℕ → Bool
same_numbers [] [] = true
same_numbers [] (y ∷ ys) = false
same_numbers (x ∷ xs) [] = false
same_numbers (x ∷ xs) (y ∷ ys) = x == y && same_numbers xs ys

-- two quotes are equal in every field
abbrev pub same_levels : Levels → Levels → Bool
same_levels a b = a.last == b.last && (same_numbers a.bids b.bids && same_numbers a.asks b.asks)

abbrev pub same_quote : Quote → Quote → Bool
same_quote a b = a.share == b.share && (a.phase == b.phase && (a.moment == b.moment && same_levels a.levels b.levels))

-- a repeat: a quote equal in every field to the own event directly before it
abbrev pub repeats : Own → Own → Bool
repeats (own_quote p) (own_quote q) = same_quote p q
repeats (own_quote p) (own_placing d l) = false
repeats (own_quote p) (own_watched_day d) = false
repeats (own_quote p) (own_traded_day d) = false
repeats (own_quote p) (own_settlement f) = false
repeats (own_quote p) own_cancel = false
repeats (own_placing d l) e = false
repeats (own_watched_day d) e = false
repeats (own_traded_day d) e = false
repeats (own_settlement f) e = false
repeats own_cancel e = false

-- the own events after one of them, and all own events, with the repeats struck out
abbrev pub struck_after : Own → List Own → List Own
struck_after p [] = []
struck_after p (e ∷ es) = cond (repeats p e) (struck_after e es) (e ∷ struck_after e es)

abbrev pub struck : List Own → List Own
struck [] = []
struck (e ∷ es) = e ∷ struck_after e es
