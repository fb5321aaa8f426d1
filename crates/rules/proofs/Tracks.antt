-- One call: what it does to an order is what the call and its answer say.
use Rattle.std.proofs.Common.{◌≡◌, ℕ, ◌-◌, Bool, true, false, cond, ◌&&◌, ◌||◌, eqb, List, [], ◌∷◌, ◌++◌, length, take, Some, None, Option, sym, refl, ap, ◌∙◌, ap₂}
use Rattle.std.specs.List.{flat_map}
use Rattle.rules.specs.Bearing.{bears, own_quotes}
use Rattle.rules.specs.Book.{Setup, State, row_after, standing, slips_after, state_after, granted_reply, quote_call_checks, refusal, decided, market_after, Burst, one_more, bursts, step}
use Rattle.rules.specs.Calls.{Single, listing, opening, placing, quoting, cancelling, claiming, settling, asking, Call, single, burst, Refusal, refused}
use Rattle.rules.specs.Checks.{first_fault}
use Rattle.rules.specs.Machine.{Order, number_of, Machine, writes, runs}
use Rattle.rules.specs.OwnEvents.{Own}
use Rattle.rules.specs.Trace.{Entry, entry, granted, places, placed_in, own_by, slips_in, slips_of, market_by, market_with, claimed_by}
use Rattle.rules.specs.declared.order.Terms.{Terms}
use Rattle.rules.specs.declared.quote.Quote.{Quote}
use Rattle.rules.specs.declared.slip.Slip.{Slip}
use Rattle.rules.proofs.Numbered.{row, of_number, writes_append, runs_append, kept_append, stands_after, slips_one, claim_granted}

-- the order stands in the book as its machine says, or has left
abbrev pub Stands : Order → State → Option Machine → Bool → Type 0
Stands o s m b = of_number (number_of o) s.rows ≡ standing (row o.terms m b)

stands_on : (su : Setup) (o : Order) (c : Single) (s : State) (m : Option Machine) (b : Bool) → Stands o s m b → places (number_of o) (single c) ≡ false
    → Stands o (state_after su s c) (runs o.terms su.limit m (bears s.market c o.terms)) (row_after su.limit s.market c (row o.terms m b)).claimed
stands_on su o c s m b h e = stands_after su c s (row o.terms m b) h e

-- the reading of a call that led from s to s'
pub record Tracked (limit : ℕ) (o : Order) (s : State) (m : Option Machine) (b : Bool) (s' : State) (x : Entry) : Type 0 where
  pub slips : slips_of (number_of o) (slips_in x.reply) ≡ writes o.terms limit m (own_by o.terms s.market x.call x.reply)
  pub stands : Stands o s' (runs o.terms limit m (own_by o.terms s.market x.call x.reply)) (claimed_by (number_of o) x.call x.reply b)

pub granted_is : (su : Setup) (s : State) (c : Single) → granted (granted_reply su s c) ≡ true
granted_is su s (listing h closes) = refl
granted_is su s (opening d) = refl
granted_is su s (placing o) = refl
granted_is su s (quoting q n) = refl
granted_is su s (cancelling j) = refl
granted_is su s (claiming j) = refl
granted_is su s (settling t f) = refl
granted_is su s (asking j) = refl

own_granted : (su : Setup) (s : State) (c : Single) (o : Order) → bears s.market c o.terms ≡ own_by o.terms s.market (single c) (granted_reply su s c)
own_granted su s c o = ap (λ b. cond b (bears s.market c o.terms) []) (sym (granted_is su s c))

tracks_granted : (su : Setup) (o : Order) (s : State) (c : Single) (m : Option Machine) (b : Bool) → Stands o s m b → placed_in (number_of o) (entry (single c) (granted_reply su s c)) ≡ false
    → Tracked su.limit o s m b (state_after su s c) (entry (single c) (granted_reply su s c))
tracks_granted su o s c m b h e =
    record {
      slips = slips_one su c s o m b h ∙ ap (writes o.terms su.limit m) (own_granted su s c o);
      stands =
          stands_on su o c s m b h (sym (ap (λ g. g && places (number_of o) (single c)) (granted_is su s c)) ∙ e)
          ∙ ap₂ (λ es x. standing (row o.terms (runs o.terms su.limit m es) x)) (own_granted su s c o) (sym (claim_granted su c s o m b h));
    }

claim_refused : (k : ℕ) (c : Single) (f : Refusal) (b : Bool) → b ≡ claimed_by k (single c) (refused f) b
claim_refused k (listing h closes) f b = refl
claim_refused k (opening d) f b = refl
claim_refused k (placing o) f b = refl
claim_refused k (quoting q p) f b = refl
claim_refused k (cancelling j) f b = refl
claim_refused k (claiming j) f b = go (eqb j k) b
  where
    go : (t v : Bool) → v ≡ cond t (v || false) v
    go true true = refl
    go true false = refl
    go false v = refl
claim_refused k (settling t x) f b = refl
claim_refused k (asking j) f b = refl

tracks_refused : (su : Setup) (o : Order) (s : State) (c : Single) (m : Option Machine) (b : Bool) (f : Refusal) → Stands o s m b
    → Tracked su.limit o s m b s (entry (single c) (refused f))
tracks_refused su o s c m b f h = record { slips = refl; stands = h ∙ ap (λ x. standing (row o.terms m x)) (claim_refused (number_of o) c f b) }

-- a burst
record Bursted (limit : ℕ) (o : Order) (m : Option Machine) (b : Bool) (qs : List Quote) (x : Burst) : Type 0 where
  slips : slips_of (number_of o) x.slips ≡ writes o.terms limit m (flat_map (own_quotes o.terms) (take x.count qs))
  stands : Stands o x.state (runs o.terms limit m (flat_map (own_quotes o.terms) (take x.count qs))) b

tracks_burst : (su : Setup) (o : Order) (qs : List Quote) (n : ℕ) (s : State) (m : Option Machine) (b : Bool) → Stands o s m b → Bursted su.limit o m b qs (bursts su s qs n)
tracks_burst su o [] n s m b h = record { slips = refl; stands = h }
tracks_burst su o (q ∷ qs) n s m b h =
    let t : Terms = o.terms in
    let ss : List Slip = slips_after su.limit s.market (quoting q n) s.rows in
    let s' : State = state_after su s (quoting q n) in
    let m' : Option Machine = runs t su.limit m (own_quotes t q) in
    let x : Burst = bursts su s' qs (n - length ss) in
    let es : List Own = flat_map (own_quotes t) (take x.count qs) in
    let ih : Bursted su.limit o m' b qs x = tracks_burst su o qs (n - length ss) s' m' b (stands_on su o (quoting q n) s m b h refl) in
    elim (first_fault (quote_call_checks s q n)) as (λ y. Bursted su.limit o m b (q ∷ qs) (one_more y s ss x)) [
      | None ↦ record {
        slips = kept_append (λ y. eqb (number_of o) y.number) ss x.slips ∙ ap₂ ◌++◌ (slips_one su (quoting q n) s o m b h) ih.slips ∙ sym (writes_append t su.limit m (own_quotes t q) es);
        stands = ih.stands ∙ ap (λ y. standing (row o.terms y b)) (sym (runs_append t su.limit m (own_quotes t q) es));
      }
      | Some k ↦ record { slips = refl; stands = h }
    ]

-- any call
pub tracks : (su : Setup) (o : Order) (s : State) (c : Call) (m : Option Machine) (b : Bool) → Stands o s m b
    → let x : Entry = entry c (step su s c).1 in placed_in (number_of o) x ≡ false → Tracked su.limit o s m b (step su s c).0 x
tracks su o s (single c) m b h e =
    (elim (refusal su s c) as (λ y. let x : Entry = entry (single c) (decided su s c y).1 in placed_in (number_of o) x ≡ false → Tracked su.limit o s m b (decided su s c y).0 x)
    [ None ↦ tracks_granted su o s c m b h | Some f ↦ λ e'. tracks_refused su o s c m b f h ]) e
tracks su o s (burst qs n) m b h e =
    let t = tracks_burst su o qs n s m b h in
    record { slips = t.slips; stands = t.stands }

-- the market
market_bursts : (su : Setup) (qs : List Quote) (n : ℕ) (s : State) → (bursts su s qs n).state.market ≡ market_with (take (bursts su s qs n).count qs) s.market
market_bursts su [] n s = refl
market_bursts su (q ∷ qs) n s =
    let ss : List Slip = slips_after su.limit s.market (quoting q n) s.rows in
    let x : Burst = bursts su (state_after su s (quoting q n)) qs (n - length ss) in
    let ih = market_bursts su qs (n - length ss) (state_after su s (quoting q n)) in
    elim (first_fault (quote_call_checks s q n)) as (λ y. (one_more y s ss x).state.market ≡ market_with (take (one_more y s ss x).count (q ∷ qs)) s.market)
    [ None ↦ ih | Some k ↦ refl ]

pub market_tracked : (su : Setup) (s : State) (c : Call) → (step su s c).0.market ≡ market_by c (step su s c).1 s.market
market_tracked su s (single c) =
    elim (refusal su s c) as (λ y. (decided su s c y).0.market ≡ market_by (single c) (decided su s c y).1 s.market)
    [ None ↦ ap (λ g. cond g (market_after c s.market) s.market) (sym (granted_is su s c)) | Some f ↦ refl ]
market_tracked su s (burst qs n) = market_bursts su qs n s
