-- Requests carried out in turn.
use Rattle.std.proofs.Common.{◌≡◌, ℕ, suc, ◌+◌, ◌-◌, ◌<◌, ◌≤◌, List, [], ◌∷◌, ◌++◌, map, length, get_or, take, drop, Some, None, Option, sym, refl, ap, ◌∙◌, subst, ap₂, arith}
use borrow.Rule.Slice.PartMut.{put_mid}
use Rattle.std.specs.Option.{option_map, IfSome}
use Rattle.std.specs.VecDeque.{deque_len, deque_capacity}
use Rattle.std.specs.List.{flat_map, remove, slice_get}
use Rattle.std.proofs.lemmas.List.{drop_more, drop_all, drop-drop, drop_at, take_at, take_rest, take-append-drop, append_assoc, append-nil, length-append, length-drop, length-take-le, length-map, get_or-map, take-map, drop-map, map-append}
use Rattle.std.proofs.lemmas.Option.{slice_get_read}
use Rattle.values.specs.declared.price.Price.{Price}
use Rattle.conditions.specs.Meaning.{Meaning}
use Rattle.rules.specs.Book.{Setup, State, new, step, refusal, decided}
use Rattle.rules.specs.Calls.{settling, Call, single, Refusal, by_market, by_book, Reply, done, wrote, burst_wrote, gives, in_state, refused}
use Rattle.rules.specs.Calls.{Ticket as Right}
use Rattle.rules.specs.Law.{Lawful}
use Rattle.rules.specs.Trace.{Entry, entry, trace, slips_in}
use Rattle.rules.specs.declared.slip.Slip.{Slip}
use Rattle.rules.proofs.Laws.{lawful, independent}
use Rattle.replay.specs.Replaying.{Point, point, rights, call_of, held_after, answered, after, outcome, next, point_of, unfilled, outcomes, made_list, entries, short, Told, reply_of, slips_of, count_of, Quiet, Turned, Passed, Replays}
use Rattle.book.specs.Carrying.{desk_of}
use Rattle.book.specs.View.{desk_view, desk_setup, right_of}
use Rattle.replay.specs.declared.run.Request.{Request}
use Rattle.replay.specs.declared.run.Runner.{Runner}
use Rattle.book.specs.declared.ticket.Ticket.{Ticket}

-- Answers and their slips.

count_short : (r : Reply) → count_of (short r) ≡ length (slips_in r)
count_short done = refl
count_short (wrote slips) = refl
count_short (burst_wrote n slips f) = refl
count_short (gives t) = refl
count_short (in_state x) = refl
count_short (refused (by_market f)) = refl
count_short (refused (by_book f)) = refl

count_reply : (x : Option Entry) → count_of (reply_of x) ≡ length (slips_of x)
count_reply None = refl
count_reply (Some x) = count_short x.reply

-- One request, which is the call c: it writes no slips.

pub silent : {C : Type 0} {means : C → Meaning} {x y : Runner C} {q : Request C} {c : Call} {r : Told} (ps : List Slip)
    → (quiet : Quiet (desk_of means x.desk) (desk_of means y.desk) c r) → call_of means (point_of means x (length ps)) q ≡ Some c
    → rights y.held.items ≡ held_after q quiet.reply (rights x.held.items)
    → deque_capacity y.held ≡ deque_capacity x.held → deque_len y.held ≤ deque_len x.held + 1 → Turned means x q y r ps ps
silent {C} {means} {x} {y} {q} {c} {r} ps quiet is h room more =
    let su : Setup = desk_setup x.desk in
    let p : Point = point_of means x (length ps) in
    let st : (desk_view means y.desk, quiet.reply) ≡ step su p.state c = quiet.carried.is_step in
    let same : quiet.reply ≡ (step su p.state c).1 = ap (λ (z : State × Reply). z.1) st in
    let zero : count_of r ≡ 0 = ap count_of quiet.told ∙ count_short quiet.reply ∙ ap length quiet.silent in
    let e : Some c ≡ call_of means p q = sym is in
    record {
      state = ap (λ (z : State × Reply). z.0) st ∙ ap (λ (o : Option Call). (after su p q o).state) e;
      held = h ∙ ap (λ z. held_after q z p.held) same ∙ ap (λ (o : Option Call). (after su p q o).held) e;
      reply = quiet.told ∙ ap short same ∙ ap (λ (o : Option Call). reply_of (answered su p.state o)) e;
      within = omega (arith, zero);
      slips = ap (λ n. take n ps) zero ∙ sym quiet.silent ∙ ap slips_in same ∙ ap (λ (o : Option Call). slips_of (answered su p.state o)) e;
      rest = refl;
      setup = quiet.carried.setup;
      room = room;
      more = more;
    }

-- The ticket at a place, and the others.

pub one_held : (ts : List Ticket) (i : ℕ) (fill : Option Price) (o : Option Ticket) (t : Ticket) → o ≡ Some t → IfSome o (λ y. y ≡ get_or ts i y) → i < length ts
    → option_map (λ t. single (settling t fill)) (slice_get (rights ts) i) ≡ Some (single (settling (right_of t) fill))
one_held ts i fill o t is value k =
    let g : t ≡ get_or ts i t = subst (λ z. IfSome z (λ y. y ≡ get_or ts i y)) is value in
    ap (option_map (λ t. single (settling t fill))) (slice_get_read (rights ts) (length ts) i (right_of t) (sym (length-map ts right_of)) k (ap right_of g ∙ sym (get_or-map right_of ts i t (right_of t) k)))

pub rights_removed : (ts : List Ticket) (i : ℕ) → rights (remove ts i) ≡ remove (rights ts) i
rights_removed ts i = map-append right_of (take i ts) (drop (suc i) ts) ∙ ap₂ (λ a b. a ++ b) (sym (take-map right_of i ts)) (sym (drop-map right_of (suc i) ts))

-- The requests before the i-th are carried out, from x₀ to x: the first w places hold their slips, and the replies were rs₀ and are rs.

pub record Going {C : Type 0} (means : C → Meaning) (x₀ x : Runner C) (qs : List (Request C)) (rs₀ rs : List Told) (ps ss : List Slip) (w i : ℕ) : Type 0 where
  pub within : w ≤ length ps
  pub replies : rs ++ map reply_of (outcomes means (desk_setup x₀.desk) (point_of means x (length ps - w)) (drop i qs)) ≡ rs₀ ++ map reply_of (outcomes means (desk_setup x₀.desk) (point_of means x₀ (length ps)) qs)
  pub slips : take w ss ++ flat_map slips_of (outcomes means (desk_setup x₀.desk) (point_of means x (length ps - w)) (drop i qs)) ≡ flat_map slips_of (outcomes means (desk_setup x₀.desk) (point_of means x₀ (length ps)) qs)
  pub rest : drop w ss ≡ drop w ps
  pub setup : desk_setup x.desk ≡ desk_setup x₀.desk
  pub room : deque_capacity x.held ≡ deque_capacity x₀.held
  pub more : deque_len x.held ≤ deque_len x₀.held + i

places_after : {C : Type 0} → (su : Setup) (p : Point) (q : Request C) (o : Option Call) → (after su p q o).places ≡ p.places - length (slips_of (answered su p.state o))
places_after su p q None = omega arith
places_after su p q (Some c) = refl

point_same : {s s₁ : State} {ts ts₁ : List Right} {n n₁ : ℕ} → s ≡ s₁ → ts ≡ ts₁ → n ≡ n₁ → point s ts n ≡ point s₁ ts₁ n₁
point_same {s} {s₁} {ts} {ts₁} {n} {n₁} a b c = ap₂ (λ x y. point x y n) a b ∙ ap (point s₁ ts₁) c

-- the request at i, which is given the places after the slips already there
pub going_more : {C : Type 0} {means : C → Meaning} {x₀ x y : Runner C} {qs : List (Request C)} {rs₀ rs rs₂ : List Told} {ps ss ys : List Slip} {w i m : ℕ}
    → Going means x₀ x qs rs₀ rs ps ss w i → length ss ≡ length ps → (q : Request C) → q ≡ get_or qs i q → i < length qs
    → (r : Told) → Turned means x q y r (take (length ss - w) (drop w ss)) ys → rs₂ ≡ rs ++ r ∷ [] → m ≡ count_of r
    → Going means x₀ y qs rs₀ rs₂ ps (put_mid w (length ss - w) ss ys) (w + m) (i + 1)
going_more {C} {means} {x₀} {x} {y} {qs} {rs₀} {rs} {rs₂} {ps} {ss} {ys} {w} {i} {m} p long q is h r t pushed e =
    let su : Setup = desk_setup x₀.desk in
    let n : ℕ = length ps - w in
    let at : Point = point_of means x n in
    let tail : List Slip = take (length ss - w) (drop w ss) in
    let all : tail ≡ drop w ss = take_rest ss w in
    let size : length tail ≡ n = ap length all ∙ length-drop w ss ∙ ap (λ z. z - w) long in
    let to : next means (desk_setup x.desk) (point_of means x (length tail)) q ≡ next means su at q = ap₂ (λ (a : Setup) (k : ℕ). next means a (point_of means x k) q) p.setup size in
    let out : outcome means (desk_setup x.desk) (point_of means x (length tail)) q ≡ outcome means su at q = ap₂ (λ (a : Setup) (k : ℕ). outcome means a (point_of means x k) q) p.setup size in
    let o : Option Entry = outcome means su at q in
    let told : r ≡ reply_of o = t.reply ∙ ap reply_of out in
    let few : m ≤ length tail = subst (λ z. z ≤ length tail) (sym e) t.within in
    let v : w ≤ length ps = p.within in
    let c : m ≡ length (slips_of o) = e ∙ ap count_of told ∙ count_reply o in
    let left : length ps - (w + m) ≡ n - length (slips_of o) = omega arith in
    let there : point_of means y (length ps - (w + m)) ≡ next means su at q =
    point_same (t.state ∙ ap (λ (z : Point). z.state) to) (t.held ∙ ap (λ (z : Point). z.held) to) (left ∙ sym (places_after su at q (call_of means at q))) in
    let more : List (Option Entry) = outcomes means su (next means su at q) (drop (i + 1) qs) in
    let here : o ∷ more ≡ outcomes means su at (drop i qs) = sym (ap (outcomes means su at) (drop_more qs i q h ∙ ap (λ z. z ∷ drop (i + 1) qs) (sym is))) in
    let a : length (take w ss) ≡ w = length-take-le w ss (omega arith) in
    let wrote : take m ys ≡ slips_of o = ap (λ k. take k ys) e ∙ t.slips ∙ ap slips_of out in
    let u : length (take w ss ++ take m ys) ≡ w + m = length-append (take w ss) (take m ys) ∙ ap₂ (λ j k. j + k) a (ap length wrote ∙ sym c) in
    let last : drop (length ss - w) (drop w ss) ≡ [] = drop_all (length ss - w) (drop w ss) (simp length-drop (omega arith)) in
    let f : put_mid w (length ss - w) ss ys ≡ (take w ss ++ take m ys) ++ drop m ys =
    ap (λ z. take w ss ++ (ys ++ z)) last ∙ ap (λ z. take w ss ++ z) (append-nil ys ∙ sym (take-append-drop m ys)) ∙ sym (append_assoc (take w ss) (take m ys) (drop m ys)) in
    let g : take (w + m) (put_mid w (length ss - w) ss ys) ≡ take w ss ++ slips_of o = ap (take (w + m)) f ∙ take_at (take w ss ++ take m ys) (drop m ys) (w + m) u ∙ ap (λ z. take w ss ++ z) wrote in
    record {
      within = omega (arith, few, size, v);
      replies =
          ap₂ (λ y z. y ++ map reply_of (outcomes means su z (drop (i + 1) qs))) pushed there
          ∙ append_assoc rs (r ∷ []) (map reply_of more)
          ∙ ap (λ z. rs ++ z ∷ map reply_of more) told
          ∙ ap (λ z. rs ++ map reply_of z) here
          ∙ p.replies;
      slips =
          ap₂ (λ y z. y ++ flat_map slips_of (outcomes means su z (drop (i + 1) qs))) g there
          ∙ append_assoc (take w ss) (slips_of o) (flat_map slips_of more)
          ∙ ap (λ z. take w ss ++ flat_map slips_of z) here
          ∙ p.slips;
      rest =
          ap (drop (w + m)) f ∙ drop_at (take w ss ++ take m ys) (drop m ys) (w + m) u ∙ ap (λ k. drop k ys) e ∙ t.rest ∙ ap (λ k. drop k tail) (sym e)
          ∙ ap (drop m) (all ∙ p.rest) ∙ drop-drop m w ps;
      setup = t.setup ∙ p.setup;
      room = t.room ∙ p.room;
      more = omega (arith, t.more, p.more);
    }

-- The settlements at the end.

abbrev ending : Setup → State → List Right → List (Option Entry)
ending su s ts = map Some (trace su s (map unfilled ts))

pub record Ending {C : Type 0} (means : C → Meaning) (x₀ x : Runner C) (rs₀ rs : List Told) : Type 0 where
  pub replies : rs ++ map reply_of (ending (desk_setup x₀.desk) (desk_view means x.desk) (rights x.held.items)) ≡ rs₀ ++ map reply_of (ending (desk_setup x₀.desk) (desk_view means x₀.desk) (rights x₀.held.items))
  pub setup : desk_setup x.desk ≡ desk_setup x₀.desk

settled_silent : (su : Setup) (s : State) (t : Right) (o : Option Refusal) → slips_in (decided su s (settling t None) o).1 ≡ []
settled_silent su s t None = refl
settled_silent su s t (Some f) = refl

ending_silent : (su : Setup) (s : State) (ts : List Right) → flat_map slips_of (ending su s ts) ≡ []
ending_silent su s [] = refl
ending_silent su s (t ∷ ts) =
    ap₂ (λ a b. a ++ b) (settled_silent su s t (refusal su s (settling t None))) (ending_silent su (step su s (unfilled t)).0 ts)

-- The calls that were made are a run.

module _ {C : Type 0} (means : C → Meaning) (su : Setup) where
  abbrev calls : List Entry → List Call
  calls xs = map (λ (x : Entry). x.call) xs

  ending_run : (s : State) (cs : List Call) → trace su s (calls (flat_map made_list (map Some (trace su s cs)))) ≡ flat_map made_list (map Some (trace su s cs))
  ending_run s [] = refl
  ending_run s (c ∷ cs) = ap (λ xs. entry c (step su s c).1 ∷ xs) (ending_run (step su s c).0 cs)

  entries_run : (p : Point) (qs : List (Request C)) → trace su p.state (calls (entries means su p qs)) ≡ entries means su p qs
  entries_run p [] = ending_run p.state (map unfilled p.held)
  entries_run p (q ∷ qs) =
      elim (call_of means p q) as (λ (o : Option Call).
      trace su p.state (calls (made_list (answered su p.state o) ++ entries means su (after su p q o) qs)) ≡ made_list (answered su p.state o) ++ entries means su (after su p q o) qs) [
        | None ↦ entries_run p qs
        | Some c ↦ ap (λ xs. entry c (step su p.state c).1 ∷ xs) (entries_run (after su p q (Some c)) qs)
      ]

made_slips : (os : List (Option Entry)) → flat_map slips_of os ≡ flat_map (λ (x : Entry). slips_in x.reply) (flat_map made_list os)
made_slips [] = refl
made_slips (None ∷ os) = made_slips os
made_slips (Some x ∷ os) = ap (λ z. slips_in x.reply ++ z) (made_slips os)

-- all requests, and then the settlements
pub replays : {C : Type 0} {means : C → Meaning} {su : Setup} {x y : Runner C} {qs : List (Request C)} {n : ℕ} {rs₀ rs rs' : List Told} {ps ps' : List Slip}
    → desk_setup x.desk ≡ su → desk_view means x.desk ≡ new → rights x.held.items ≡ [] → rs₀ ≡ []
    → Passed means x qs y n rs₀ rs ps ps' → rs' ≡ rs ++ map reply_of (ending (desk_setup y.desk) (desk_view means y.desk) (rights y.held.items))
    → Replays means su qs rs' n ps ps'
replays {C} {means} {su} {x} {y} {qs} {n} {rs₀} {rs} {rs'} {ps} {ps'} e₁ e₂ e₃ e₄ p e₅ =
    let all : List (Option Entry) = outcomes means su (point new [] (length ps)) qs in
    let begun : outcomes means (desk_setup x.desk) (point_of means x (length ps)) qs ≡ all = ap₂ (λ a b. outcomes means a b qs) e₁ (point_same e₂ e₃ (refl {a = length ps})) in
    let run : trace su new (map (λ (x : Entry). x.call) (flat_map made_list all)) ≡ flat_map made_list all = entries_run means su (point new [] (length ps)) qs in
    record {
      replies = e₅ ∙ ap (λ z. rs ++ map reply_of (ending z (desk_view means y.desk) (rights y.held.items))) p.setup ∙ p.replies ∙ ap₂ (λ a b. a ++ map reply_of b) e₄ begun;
      slips =
          sym (append-nil (take n ps')) ∙ ap (λ z. take n ps' ++ z) (sym (ending_silent (desk_setup x.desk) (desk_view means y.desk) (rights y.held.items)))
          ∙ p.slips ∙ ap (flat_map slips_of) begun ∙ made_slips all;
      within = p.within;
      rest = p.rest;
      run = run;
      lawful = subst (Lawful su) run (lawful su (map (λ (x : Entry). x.call) (flat_map made_list all)));
      independent = independent;
    }
