-- A listing changes no order.
use Rattle.std.proofs.Common.{◌≡◌, ℕ, Bool, true, false, cond, ltb, List, take, is_some, Some, None, Ok, Err, Option, Result, sym, refl, ap, ◌∙◌}
use Rattle.std.specs.Option.{option_map}
use Rattle.std.specs.Result.{result_err}
use Rattle.std.proofs.lemmas.List.{append-nil}
use Rattle.conditions.specs.Meaning.{Meaning}
use Rattle.market.specs.Asking.{newly, when_granted}
use Rattle.rules.specs.Book.{Setup, step, decided}
use Rattle.rules.specs.Bounds.{greatest_share}
use Rattle.rules.specs.Calls.{listing, single, by_market, refused, done}
use Rattle.rules.specs.Checks.{first_fault}
use Rattle.rules.specs.Market.{Market, Share, put, list_checks}
use Rattle.rules.specs.declared.fault.MarketFault.{MarketFault}
use Rattle.rules.specs.declared.fault.MarketFault.TheVariants as fault
use Rattle.book.specs.View.{view, day_reply}
use Rattle.book.specs.declared.book.Book.{Book}
use Rattle.book.proofs.Bearing.{listed_rows}

-- a listing that is let through is of a share that was not listed
unknown_by : (a b : Bool) (rest : Option MarketFault) → None ≡ cond a (Some fault.Share) (cond b (Some fault.ListedAlready) rest) → b ≡ false
unknown_by true b rest e = cc
unknown_by false true rest e = cc
unknown_by false false rest e = refl

none_is : (s : Option Share) → is_some s ≡ false → s ≡ None
none_is None e = refl
none_is (Some s) e = cc

module _ {C : Type 0} (means : C → Meaning) where
  pub listed_step : (su : Setup) (mk mk' : Market) (b : Book C) (h : ℕ) (closes : List ℕ) (r : Result (Unit {0}) MarketFault)
      → result_err r ≡ first_fault (list_checks mk h closes) → mk' ≡ when_granted r (put h (newly closes) mk) mk
      → (view means mk' b, day_reply r) ≡ step su (view means mk b) (single (listing h closes))
  listed_step su mk mk' b h closes (Err f) e a =
      ap (λ m. (view means m b, refused (by_market f))) a ∙ ap (λ o. decided su (view means mk b) (listing h closes) (option_map by_market o)) e
  listed_step su mk mk' b h closes (Ok u) e a =
      let free : mk h ≡ None = none_is (mk h) (unknown_by (ltb greatest_share h) (is_some (mk h)) _ e) in
      ap (λ m. (view means m b, done)) a
      ∙ ap (λ rows. (record { market = put h (newly closes) mk; rows = rows }, done)) (listed_rows means mk h closes free (take b.count b.rows.now) ∙ sym (append-nil _))
      ∙ ap (λ o. decided su (view means mk b) (listing h closes) (option_map by_market o)) e
