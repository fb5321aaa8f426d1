-- Quotes taken in turn.
use Rattle.std.proofs.Common.{◌≡◌, ℕ, suc, ◌+◌, ◌-◌, ◌<◌, ◌≤◌, List, [], ◌++◌, length, get_or, take, drop, Some, None, Option, sym, refl, ap, ◌∙◌, ap₂, arith}
use borrow.Rule.Slice.PartMut.{put_mid}
use Rattle.std.specs.Option.{option_map}
use Rattle.std.proofs.lemmas.List.{drop_more, drop_all, drop-drop, drop_at, take_at, take_rest, take-append-drop, append_assoc, append-nil, length-append, length-drop, length-take-le}
use Rattle.rules.specs.Book.{Setup, State, quote_call_checks, slips_after, state_after, step, decided, one_more, bursts}
use Rattle.rules.specs.Book.{Burst as Run}
use Rattle.rules.specs.Calls.{quoting, single, burst, by_book, Reply, wrote, burst_wrote, refused}
use Rattle.rules.specs.Checks.{first_fault}
use Rattle.rules.specs.declared.fault.PlacingFault.{PlacingFault}
use Rattle.rules.specs.declared.quote.Quote.{Quote}
use Rattle.rules.specs.declared.slip.Slip.{Slip}

-- What a quote's step says of its checks.

abbrev quote_slips : Setup → State → Quote → ℕ → List Slip
quote_slips su s q n = slips_after su.limit s.market (quoting q n) s.rows

both_wrote : (s t : State) (a b : List Slip) → ◌≡◌ {A = State × Reply} (s, wrote a) (t, wrote b) → (s ≡ t) × (a ≡ b)
both_wrote s t a b e = let w : wrote a ≡ wrote b = ap (λ (x : State × Reply). x.1) e in (ap (λ (x : State × Reply). x.0) e, cc)

both_refused : (s t : State) (f x : PlacingFault) → ◌≡◌ {A = State × Reply} (s, refused (by_book f)) (t, refused (by_book x)) → (x ≡ f) × (s ≡ t)
both_refused s t f x e = let w : refused (by_book f) ≡ refused (by_book x) = ap (λ (x : State × Reply). x.1) e in (cc, ap (λ (x : State × Reply). x.0) e)

not_both : (s t : State) (a : List Slip) (f : PlacingFault) → ◌≡◌ {A = State × Reply} (s, wrote a) (t, refused (by_book f)) → ⊥
not_both s t a f e = let w : wrote a ≡ refused (by_book f) = ap (λ (x : State × Reply). x.1) e in let z : ◌≡◌ {A = ℕ} 0 1 = cc in omega arith

ok_by : (su : Setup) (s s₂ : State) (q : Quote) (n : ℕ) (slips : List Slip) (o : Option PlacingFault) → (s₂, wrote slips) ≡ decided su s (quoting q n) (option_map by_book o)
    → (o ≡ None) × (s₂ ≡ state_after su s (quoting q n)) × (slips ≡ quote_slips su s q n)
ok_by su s s₂ q n slips None e = let b = both_wrote s₂ (state_after su s (quoting q n)) slips (quote_slips su s q n) e in (refl, b.0, b.1)
ok_by su s s₂ q n slips (Some f) e = absurd (not_both s₂ s slips f e)

err_by : (su : Setup) (s s₂ : State) (q : Quote) (n : ℕ) (f : PlacingFault) (o : Option PlacingFault) → (s₂, refused (by_book f)) ≡ decided su s (quoting q n) (option_map by_book o) → (o ≡ Some f) × (s₂ ≡ s)
err_by su s s₂ q n f None e = absurd (not_both (state_after su s (quoting q n)) s₂ (quote_slips su s q n) f (sym e))
err_by su s s₂ q n f (Some x) e = let b = both_refused s₂ s f x e in (ap Some b.0, b.1)

-- k quotes that wrote these slips, and then the rest of a burst
abbrev onward : ℕ → List Slip → Run → Run
onward k slips b = record { state = b.state; count = k + b.count; slips = slips ++ b.slips; fault = b.fault }

onward_more : (k : ℕ) (a slips : List Slip) (s : State) (b : Run) → onward (k + 1) (a ++ slips) b ≡ onward k a (one_more None s slips b)
onward_more k a slips s b =
    let c : (k + 1) + b.count ≡ k + suc b.count = omega arith in
    ap₂ (λ n z. record { state = b.state; count = n; slips = z; fault = b.fault }) c (append_assoc a slips b.slips)

abbrev answer_of : Run → State × Reply
answer_of b = (b.state, burst_wrote b.count b.slips b.fault)

-- the first k quotes are taken, and wrote the first w slips; the places held ps, and ss is what they hold now
pub record Bursting (su₀ su : Setup) (qs : List Quote) (s₀ s : State) (ps ss : List Slip) (k w : ℕ) : Type 0 where
  pub within : w ≤ length ps
  pub onwards : onward k (take w ss) (bursts su₀ s (drop k qs) (length ps - w)) ≡ bursts su₀ s₀ qs (length ps)
  pub rest : drop w ss ≡ drop w ps
  pub setup : su ≡ su₀

module _ {su₀ su : Setup} {qs : List Quote} {s₀ s : State} {ps ss : List Slip} {k w : ℕ} (p : Bursting su₀ su qs s₀ s ps ss k w) (long : length ss ≡ length ps) where
  -- the places after the slips already there
  abbrev tail : List Slip
  tail = take (length ss - w) (drop w ss)

  tail_is : tail ≡ drop w ss
  tail_is = take_rest ss w

  tail_length : length tail ≡ length ps - w
  tail_length = ap length tail_is ∙ length-drop w ss ∙ ap (λ z. z - w) long

  -- the places, where those after the slips already there hold ys
  abbrev filled : List Slip → List Slip
  filled ys = put_mid w (length ss - w) ss ys

  put_is : (ys : List Slip) → filled ys ≡ take w ss ++ ys
  put_is ys =
      let l : length (drop w ss) ≤ length ss - w = simp length-drop (omega arith) in
      ap (λ z. take w ss ++ (ys ++ z)) (drop_all (length ss - w) (drop w ss) l) ∙ ap (λ z. take w ss ++ z) (append-nil ys)

  -- the end, where what is left adds nothing
  ended : (s₂ : State) (f : Option PlacingFault) → bursts su₀ s (drop k qs) (length ps - w) ≡ record { state = s₂; count = 0; slips = []; fault = f }
      → (s₂, burst_wrote k (take w ss) f) ≡ step su₀ s₀ (burst qs (length ps))
  ended s₂ f e =
      let c : k ≡ k + 0 = omega arith in
      ap₂ (λ n z. (s₂, burst_wrote n z f)) c (sym (append-nil (take w ss)))
      ∙ ap answer_of (sym (ap (onward k (take w ss)) e) ∙ p.onwards)

  -- the quote at k, which leaves the state s₂ and ys in the places; d is any quote
  module _ (d : Quote) (h : k < length qs) (su₂ : Setup) (s₂ : State) (ys : List Slip) (same : su₂ ≡ su) where
    abbrev q : Quote
    q = get_or qs k d

    abbrev further : Run
    further = bursts su₀ (state_after su₀ s (quoting q (length ps - w))) (drop (k + 1) qs) (length ps - w - length (quote_slips su₀ s q (length ps - w)))

    at_quote : bursts su₀ s (drop k qs) (length ps - w) ≡ one_more (first_fault (quote_call_checks s q (length ps - w))) s (quote_slips su₀ s q (length ps - w)) further
    at_quote = ap (λ z. bursts su₀ s z (length ps - w)) (drop_more qs k d h)

    by_setup : step su s (single (quoting q (length tail))) ≡ step su₀ s (single (quoting q (length ps - w)))
    by_setup = ap₂ (λ a b. step a s (single (quoting q b))) p.setup tail_length

    -- it is refused
    pub burst_err : (f : PlacingFault) → (s₂, refused (by_book f)) ≡ step su s (single (quoting q (length tail))) → ys ≡ tail
        → ((s₂, burst_wrote k (take w (filled ys)) (Some f)) ≡ step su₀ s₀ (burst qs (length ps))) × (su₂ ≡ su₀)
    burst_err f e y =
        let n : ℕ = length ps - w in
        let b = err_by su₀ s s₂ q n f (first_fault (quote_call_checks s q n)) (e ∙ by_setup) in
        let v : filled ys ≡ ss = put_is ys ∙ ap (λ z. take w ss ++ z) (y ∙ tail_is) ∙ take-append-drop w ss in
        let o : bursts su₀ s (drop k qs) n ≡ record { state = s; count = 0; slips = []; fault = Some f } = at_quote ∙ ap (λ x. one_more x s (quote_slips su₀ s q n) further) b.0 in
        (ap₂ (λ a z. (a, burst_wrote k (take w z) (Some f))) b.1 v ∙ ended s (Some f) o, same ∙ p.setup)

    -- it is taken, and wrote m slips
    pub burst_more : (m : ℕ) → (s₂, wrote (take m ys)) ≡ step su s (single (quoting q (length tail))) → m ≤ length tail → length ys ≡ length tail → drop m ys ≡ drop m tail
        → Bursting su₀ su₂ qs s₀ s₂ ps (filled ys) (k + 1) (w + m)
    burst_more m e few size back =
        let n : ℕ = length ps - w in
        let f : List Slip = quote_slips su₀ s q n in
        let b = ok_by su₀ s s₂ q n (take m ys) (first_fault (quote_call_checks s q n)) (e ∙ by_setup) in
        let v : w ≤ length ps = p.within in
        let l : length (take m ys) ≡ m = length-take-le m ys (omega arith) in
        let a : length (take w ss) ≡ w = length-take-le w ss (omega arith) in
        let u : length (take w ss ++ take m ys) ≡ w + m = length-append (take w ss) (take m ys) ∙ (omega arith) in
        let c : m ≡ length f = sym l ∙ ap length b.2 in
        let x : length ps - (w + m) ≡ n - length f = omega arith in
        let t : filled ys ≡ (take w ss ++ take m ys) ++ drop m ys = put_is ys ∙ ap (λ z. take w ss ++ z) (sym (take-append-drop m ys)) ∙ sym (append_assoc (take w ss) (take m ys) (drop m ys)) in
        let g : take (w + m) (filled ys) ≡ take w ss ++ f = ap (take (w + m)) t ∙ take_at (take w ss ++ take m ys) (drop m ys) (w + m) u ∙ ap (λ z. take w ss ++ z) b.2 in
        record {
          within = omega (arith, few, tail_length, v);
          onwards =
              ap (λ z. onward (k + 1) z (bursts su₀ s₂ (drop (k + 1) qs) (length ps - (w + m)))) g
              ∙ ap₂ (λ y z. onward (k + 1) (take w ss ++ f) (bursts su₀ y (drop (k + 1) qs) z)) b.1 x
              ∙ onward_more k (take w ss) f s further
              ∙ sym (ap (onward k (take w ss)) (at_quote ∙ ap (λ y. one_more y s f further) b.0))
              ∙ p.onwards;
          rest = ap (drop (w + m)) t ∙ drop_at (take w ss ++ take m ys) (drop m ys) (w + m) u ∙ back ∙ ap (drop m) (tail_is ∙ p.rest) ∙ drop-drop m w ps;
          setup = same ∙ p.setup;
        }
