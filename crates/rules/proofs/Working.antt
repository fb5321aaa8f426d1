-- The prices worked by hand are what the definitions compute.
use Rattle.std.proofs.Common.{refl}
use Rattle.rules.specs.WorkedPrices.{WorkedPrices}

pub worked_prices : WorkedPrices
worked_prices =
    record {
      target = refl;
      rebounds = refl;
      falls_back = refl;
      falls_far = refl;
      not_yet = refl;
      no_longer = refl;
      average_yes = refl;
      average_no = refl;
      average_trigger = refl;
      held = refl;
      grid_buys = refl;
      sent = refl;
      withheld = refl;
      sent_in_run = refl;
      withheld_in_run = refl;
    }
