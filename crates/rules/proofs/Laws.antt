-- The law of every run.
use Rattle.std.proofs.Common.{◌≡◌, ℕ, suc, ◌+◌, ◌-◌, ◌≤◌, true, false, not, ◌&&◌, List, [], ◌∷◌, ◌++◌, length, is_some, Some, None, Option, sym, refl, ap, ◌∙◌, subst, ap₂, append_assoc, zero-add, arith, length-append}
use Rattle.std.specs.Option.{option_map}
use Rattle.std.proofs.lemmas.Bool.{true≢false}
use Rattle.conditions.specs.declared.event.Answer.TheVariants as answer
use Rattle.rules.specs.Book.{Setup, State, new, standing, waits, state_of, slips_after, state_after, granted_reply, quote_call_checks, refusal, decided, Burst, one_more, bursts, step}
use Rattle.rules.specs.Calls.{Single, listing, opening, placing, quoting, cancelling, claiming, settling, asking, Call, single, burst, Refusal, by_book, Reply, done, wrote, burst_wrote, gives, in_state, refused}
use Rattle.rules.specs.Checks.{first_fault}
use Rattle.rules.specs.Law.{Faithful, NoStray, Independent, RefusedByCheck, Answered, Read, OneByOne, all_taken, stopped, took, BurstsOneByOne, ClaimsHeld, sent_in, WithinTotal, Lawful, EveryRun, RefusalAltersNothing, continued, CutAnywhere}
use Rattle.rules.specs.Machine.{Order, number_of, Machine, watching, writes, runs, new_machine}
use Rattle.rules.specs.OwnEvents.{Own}
use Rattle.rules.specs.Reading.{reading}
use Rattle.rules.specs.Trace.{Entry, entry, trace, state_by, refusal_in, taken_in, slips_in, granted, placed_among, span, bearing, owns, own_events, own_slips, claimed_from}
use Rattle.rules.specs.declared.fault.PlacingFault.{PlacingFault}
use Rattle.rules.specs.declared.quote.Quote.{Quote}
use Rattle.rules.specs.declared.slip.Slip.{Slip}
use Rattle.rules.proofs.Books.{reading_more, lone_read, read as book_read}
use Rattle.rules.proofs.Lone.{Lone, lone_granted}
use Rattle.rules.proofs.Noting.{writes_within}
use Rattle.rules.proofs.Numbered.{of_number, claim_one, state_one}
use Rattle.rules.proofs.Runs.{parted, follow, then, slips_granted, stands_granted}
use Rattle.rules.proofs.Striking.{writes_struck, writes_none}

-- where an order is placed and the call is done, it is granted
abbrev placing_done : Order → Entry
placing_done o = entry (single (placing o)) done

-- what holds of every run in which the call of an entry is that placing
placed_there : (su : Setup) (cs₁ : List Call) (c : Call) (cs₂ : List Call) (o : Order) (Q : List Entry → Type 0)
    → (granted (step su (state_by su new cs₁) (single (placing o))).1 ≡ true → Q (trace su (step su (state_by su new cs₁) (single (placing o))).0 cs₂))
    → entry c (step su (state_by su new cs₁) c).1 ≡ placing_done o → Q (trace su (step su (state_by su new cs₁) c).0 cs₂)
placed_there su cs₁ c cs₂ o Q h e =
    let s : State = state_by su new cs₁ in
    let P : Call → Type 0 = λ d. granted (step su s d).1 ≡ true → Q (trace su (step su s d).0 cs₂) in
    subst P (sym (ap (λ x. x.call) e)) h (ap (λ x. granted x.reply) e)

pub faithful : EveryRun Faithful
faithful su cs before o later e =
    parted su cs new before (placing_done o) later
    (λ b x l. x ≡ placing_done o → own_slips o l ≡ writes o.terms su.limit (new_machine o) (own_events su.limit b o l))
    (λ cs₁ c cs₂. placed_there su cs₁ c cs₂ o
    (λ l. own_slips o l ≡ writes o.terms su.limit (new_machine o) (own_events su.limit (trace su new cs₁) o l))
    (λ g. slips_granted su cs₁ o g cs₂))
    e refl

abbrev nobody : ℕ → Order
nobody k =
    record {
      terms = record { number = k; watched = 0; traded = 0; choice = 0; own_price = 0; quantity = 0; total = 0; limit_mark = false };
      meaning = λ h e. answer.Wait;
    }

pub no_stray : EveryRun NoStray
no_stray su cs k =
    follow su (nobody k) cs new None false refl
    ∙ writes_none (nobody k).terms su.limit (owns (nobody k).terms new.market (span k (trace su new cs)))

pub independent : Independent
independent o l su cs before later e su' cs' before' later' e' i h =
    faithful su cs before o later e
    ∙ writes_struck su.limit o l (own_events su.limit before o later)
    ∙ ap₂ (λ x es. writes o.terms x (new_machine o) es) i h
    ∙ sym (writes_struck su'.limit o l (own_events su'.limit before' o later'))
    ∙ sym (faithful su' cs' before' o later' e')

pub book_is_read : Read
book_is_read su cs = book_read su cs

pub is_answered : EveryRun Answered
is_answered su cs before c r later e =
    parted su cs new before (entry c r) later (λ b x l. x.reply ≡ (step su (reading su b) x.call).1) (λ cs₁ d cs₂. ap (λ s. (step su s d).1) (book_read su cs₁)) e

none_in : (su : Setup) (s : State) (c : Single) → refusal_in (granted_reply su s c) ≡ None
none_in su s (listing h closes) = refl
none_in su s (opening d) = refl
none_in su s (placing o) = refl
none_in su s (quoting q n) = refl
none_in su s (cancelling k) = refl
none_in su s (claiming k) = refl
none_in su s (settling t f) = refl
none_in su s (asking k) = refl

decided_so : (su : Setup) (s : State) (c : Single) (x : Option Refusal) → refusal_in (decided su s c x).1 ≡ x
decided_so su s c None = none_in su s c
decided_so su s c (Some f) = refl

pub refused_by_check : EveryRun RefusedByCheck
refused_by_check su cs before c r later e = ap refusal_in (is_answered su cs before (single c) r later e) ∙ decided_so su (reading su before) c (refusal su (reading su before) c)

pub refusal_alters_nothing : RefusalAltersNothing
refusal_alters_nothing su s c f e = go (refusal su s c) (sym (decided_so su s c (refusal su s c)) ∙ ap refusal_in e)
  where
    go : (x : Option Refusal) → x ≡ Some f → (decided su s c x).0 ≡ s
    go None h = absurd (true≢false (ap is_some (sym h)))
    go (Some g) h = refl

-- A burst.
takes_one : (su : Setup) (qs : List Quote) (places : ℕ) (before : List Entry) → Lone (reading su before).rows → let b : Burst = bursts su (reading su before) qs places in OneByOne su before qs places b.count b.slips b.fault
takes_one su [] places before o = all_taken before places
takes_one su (q ∷ qs) places before o = go (λ n more. takes_one su qs n more) (first_fault (quote_call_checks s q places)) refl
  where
    s : State
    s = reading su before

    ss : List Slip
    ss = slips_after su.limit s.market (quoting q places) s.rows

    x : Burst
    x = bursts su (state_after su s (quoting q places)) qs (places - length ss)

    answers : (y : Option PlacingFault) → first_fault (quote_call_checks s q places) ≡ y
        → step su s (single (quoting q places)) ≡ decided su s (quoting q places) (option_map by_book y)
    answers y e = ap (λ z. decided su s (quoting q places) (option_map by_book z)) e

    go : ((n : ℕ) (more : List Entry) → Lone (reading su more).rows → let b : Burst = bursts su (reading su more) qs n in OneByOne su more qs n b.count b.slips b.fault)
        → (y : Option PlacingFault) → first_fault (quote_call_checks s q places) ≡ y
        → OneByOne su before (q ∷ qs) places (one_more y s ss x).count (one_more y s ss x).slips (one_more y s ss x).fault
    go ih (Some f) e = stopped before q qs places f (ap (λ z. z.1) (answers (Some f) e))
    go ih None e =
        let w : (step su s (single (quoting q places))).1 ≡ wrote ss = ap (λ z. z.1) (answers None e) in
        let more : List Entry = before ++ entry (single (quoting q places)) (wrote ss) ∷ [] in
        let there : reading su more ≡ state_after su s (quoting q places) =
        ap (λ r. reading su (before ++ entry (single (quoting q places)) r ∷ [])) (sym w) ∙ sym (reading_more su before (single (quoting q places)) o) ∙ ap (λ z. z.0) (answers None e) in
        let l : Lone (state_after su s (quoting q places)).rows = lone_granted su s (quoting q places) (ap granted w) o in
        took before q qs places x.count ss x.slips x.fault w
        (subst (λ z. let b : Burst = bursts su z qs (places - length ss) in OneByOne su more qs (places - length ss) b.count b.slips b.fault) there (ih (places - length ss) more (subst (λ z. Lone z.rows) (sym there) l)))

abbrev fault_in : Reply → Option PlacingFault
fault_in done = None
fault_in (wrote slips) = None
fault_in (burst_wrote n slips f) = f
fault_in (gives t) = None
fault_in (in_state x) = None
fault_in (refused f) = None

pub bursts_one_by_one : EveryRun BurstsOneByOne
bursts_one_by_one su cs before qs places n slips f later e =
    let a = sym (is_answered su cs before (burst qs places) (burst_wrote n slips f) later e) in
    subst (λ z. OneByOne su before qs places (taken_in z) (slips_in z) (fault_in z)) a (takes_one su qs places before (parted su cs new before (entry (burst qs places) (burst_wrote n slips f)) later (λ b x l. Lone (reading su b).rows) (λ cs₁ c cs₂. lone_read su cs₁) e))

-- Claims.
pub claims_held : EveryRun ClaimsHeld
claims_held su cs before o between c r later e no_other =
    parted su cs new before (placing_done o) (between ++ entry (single c) r ∷ later)
    (λ b x l. x ≡ placing_done o → l ≡ between ++ entry (single c) r ∷ later → placed_among k between ≡ false → Held b between c r)
    (λ cs₁ d cs₂. placed_there su cs₁ d cs₂ o (λ l. l ≡ between ++ entry (single c) r ∷ later → placed_among k between ≡ false → Held (trace su new cs₁) between c r)
    (λ g h p. parted su cs₂ (then su cs₁ o g) between (entry (single c) r) later
    (λ m x l. x ≡ entry (single c) r → placed_among k m ≡ false → Held (trace su new cs₁) m c r)
    (λ cs₃ y cs₄ z p'. here cs₁ g cs₃ (stands_granted su cs₁ o g cs₃ p') y z) h refl p))
    e refl refl no_other
  where
    k : ℕ
    k = number_of o

    machine : List Entry → List Entry → Option Machine
    machine b m = runs o.terms su.limit (new_machine o) (bearing b o m)

    Held : List Entry → List Entry → Single → Reply → Type 0
    Held b m d x =
        (d ≡ claiming k → x ≡ gives (record { void = not (waits (machine b m) && not (claimed_from k false m)); book = su.book; number = k }))
        × (d ≡ asking k → x ≡ in_state (state_of (machine b m) (claimed_from k false m)))

    here : (cs₁ : List Call) (g : granted (step su (state_by su new cs₁) (single (placing o))).1 ≡ true) (cs₃ : List Call)
        → let m : List Entry = trace su (then su cs₁ o g) cs₃ in let s : State = state_by su (then su cs₁ o g) cs₃ in
        of_number k s.rows ≡ standing (record { terms = o.terms; machine = machine (trace su new cs₁) m; claimed = claimed_from k false m })
        → (y : Call) → entry y (step su s y).1 ≡ entry (single c) r → Held (trace su new cs₁) m c r
    here cs₁ g cs₃ h y z =
        let m : List Entry = trace su (then su cs₁ o g) cs₃ in
        let s : State = state_by su (then su cs₁ o g) cs₃ in
        let a : (step su s (single c)).1 ≡ r = ap (λ d. (step su s d).1) (sym (ap (λ w. w.call) z)) ∙ ap (λ w. w.reply) z in (
          λ i. sym a ∙ ap (λ d. (step su s (single d)).1) i
              ∙ ap (λ w. gives (record { void = not w; book = su.book; number = k })) (claim_one o (machine (trace su new cs₁) m) (claimed_from k false m) s.rows h),
          λ i. sym a ∙ ap (λ d. (step su s (single d)).1) i
              ∙ ap in_state (state_one o (machine (trace su new cs₁) m) (claimed_from k false m) s.rows h),
        )

pub within_total : EveryRun WithinTotal
within_total su cs before o later e set =
    let es : List Own = own_events su.limit before o later in
    subst (λ ss. sent_in ss ≤ o.terms.total) (sym (faithful su cs before o later e))
    (subst (λ n. n ≤ o.terms.total) (zero-add (sent_in (writes o.terms su.limit (new_machine o) es)))
    (writes_within o.terms su.limit set es (watching o.meaning (record { sent = 0; market = None; prices = None })) (omega arith)))

pub lawful : EveryRun Lawful
lawful su cs =
    record {
      faithful = faithful su cs;
      no_stray = no_stray su cs;
      refused_by_check = refused_by_check su cs;
      answered = is_answered su cs;
      bursts_one_by_one = bursts_one_by_one su cs;
      claims_held = claims_held su cs;
      within_total = within_total su cs;
    }

-- A burst in two parts.
less_twice : (n : ℕ) (a b : List Slip) → (n - length a) - length b ≡ n - length (a ++ b)
less_twice n a b = rw (length-append a b) (omega arith)

pub cut_anywhere : CutAnywhere
cut_anywhere su s [] qs n =
    let c : ℕ → Burst = λ k. bursts su s qs k in
    let h : n ≡ n - 0 = omega arith in
    let i : (c n).count ≡ 0 + (c n).count = omega arith in
    (λ j. record { state = (c n).state; count = i j; slips = (c n).slips; fault = (c n).fault })
    ∙ ap (λ k. record { state = (c k).state; count = 0 + (c k).count; slips = (c k).slips; fault = (c k).fault }) h
cut_anywhere su s (p ∷ ps) qs n = go (λ s k. cut_anywhere su s ps qs k) (first_fault (quote_call_checks s p n))
  where
    ss : List Slip
    ss = slips_after su.limit s.market (quoting p n) s.rows

    s' : State
    s' = state_after su s (quoting p n)

    x : Burst
    x = bursts su s' ps (n - length ss)

    rest : (y : Option PlacingFault) → one_more None s ss (continued su (n - length ss) x y qs) ≡ continued su n (one_more None s ss x) y qs
    rest (Some f) = refl
    rest None =
        let c : ℕ → Burst = λ k. bursts su x.state qs k in
        let h : (n - length ss) - length x.slips ≡ n - length (ss ++ x.slips) = less_twice n ss x.slips in
        let i : suc (x.count + (c ((n - length ss) - length x.slips)).count) ≡ suc x.count + (c ((n - length ss) - length x.slips)).count = omega arith in
        let d : Burst = c ((n - length ss) - length x.slips) in
        (λ j. record { state = d.state; count = i j; slips = sym (append_assoc ss x.slips d.slips) j; fault = d.fault })
        ∙ ap (λ k. record { state = (c k).state; count = suc x.count + (c k).count; slips = (ss ++ x.slips) ++ (c k).slips; fault = (c k).fault }) h

    go : ((s : State) (k : ℕ) → let b : Burst = bursts su s ps k in bursts su s (ps ++ qs) k ≡ continued su k b b.fault qs)
        → (y : Option PlacingFault)
        → one_more y s ss (bursts su s' (ps ++ qs) (n - length ss)) ≡ continued su n (one_more y s ss x) (one_more y s ss x).fault qs
    go ih (Some f) = refl
    go ih None = ap (one_more None s ss) (ih s' (n - length ss)) ∙ rest x.fault
