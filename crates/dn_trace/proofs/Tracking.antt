-- Of each client its first submission, and whether it made another one.
use Rattle.std.proofs.Common.{◌≡◌, ℕ, zero, suc, ◌+◌, ◌<◌, Bool, true, false, List, length, get_or, set, take, replicate, Option, Some, None, refl, sym, ap, ◌∙◌, subst, arith, inl, inr, get_or-set_same, get_or-set_other}
use Rattle.std.specs.Prelude.{◌⊎◌, Contains}
use Rattle.std.proofs.lemmas.Grind.{common_steps}
use Rattle.std.proofs.lemmas.Bool.{false≢true, cases_eq, cases_Bool}
use Rattle.std.proofs.lemmas.Option.{same_Some, none-some}
use Rattle.std.proofs.lemmas.List.Elements.{All-contains}
use Rattle.dn_wire.specs.declared.ids.ClientId.{ClientId}
use Rattle.dn_wire.specs.declared.ids.SignerId.TheVariants.{Client}
use Rattle.dn_wire.specs.declared.ids.Round.{Round}
use Rattle.dn_record_types.specs.declared.statement.Statement.{Statement}
use Rattle.dn_record_types.specs.declared.statement.Statement.TheVariants as kinds
use Rattle.dn_seal.specs.Dealt.{client}
use Rattle.dn_trace.specs.declared.entries.Submitted.{Submitted}
use Rattle.dn_trace.specs.Trial.{Trial, Says, Heard, IsEntered, round_of}
use Rattle.dn_trace.specs.Evidence.{Tells}
use Rattle.dn_trace.specs.Verdict.{IsDouble, Submits}
use Rattle.dn_seal.specs.Said.{SaidView}
use Rattle.dn_trace.proofs.Marking.{contained_kept, contained_new, contained_cases}
use Rattle.dn_trace.proofs.Upto.{said_kept, said_new, said_cases}
use Rattle.dn_trace.specs.Tables.{AreEntered, IsNoted, nowhere, is_first, again, other, clients_of}

-- P tells which submissions a client made
pub record IsTracked (P : ℕ → Submitted → Type 0) (n : ℕ) (first : List (Option Submitted)) (double : List Bool) : Type 0 where
  pub size_first : length first ≡ n
  pub size_double : length double ≡ n
  pub none : (i : ℕ) → i < n → get_or first i None ≡ None → (x : Submitted) → P i x → ⊥
  pub some : (i : ℕ) (x : Submitted) → i < n → get_or first i None ≡ Some x → P i x
  pub same : (i : ℕ) (x : Submitted) → i < n → get_or first i None ≡ Some x → get_or double i false ≡ false → (y : Submitted) → P i y → y ≡ x
  pub differ : (i : ℕ) → i < n → get_or double i false ≡ true → (x : Submitted) × (y : Submitted) × P i x × P i y × (x ≡ y → ⊥)

length_set : {X : Type 0} (xs : List X) (i : ℕ) (x : X) → length (set xs i x) ≡ length xs
length_set xs i x = grind (arith, common_steps)

module _ (P Q : ℕ → Submitted → Type 0) (n : ℕ) (to : (i : ℕ) (x : Submitted) → P i x → Q i x) where
  -- the same is tracked of the same
  pub tracked_same : (first : List (Option Submitted)) (double : List Bool) → ((i : ℕ) (x : Submitted) → Q i x → P i x)
      → IsTracked P n first double → IsTracked Q n first double
  tracked_same first double back old = record {
    size_first = old.size_first;
    size_double = old.size_double;
    none = λ i lt e x q. old.none i lt e x (back i x q);
    some = λ i x lt e. to i x (old.some i x lt e);
    same = λ i x lt e f y q. old.same i x lt e f y (back i y q);
    differ = λ i lt t. let o = old.differ i lt t in (o.0, o.1, to i o.0 o.2, to i o.1 o.3, o.4);
  }

  module _ (a : ℕ) (s : Submitted) (back : (i : ℕ) (x : Submitted) → Q i x → P i x ⊎ ((i ≡ a) × (x ≡ s))) (here : Q a s)
      (first : List (Option Submitted)) (double : List Bool) (old : IsTracked P n first double) where
    differs : (i : ℕ) → i < n → get_or double i false ≡ true → (x : Submitted) × (y : Submitted) × Q i x × Q i y × (x ≡ y → ⊥)
    differs i lt t = let o = old.differ i lt t in (o.0, o.1, to i o.0 o.2, to i o.1 o.3, o.4)

    -- the client has a first submission
    none_again : (z : Submitted) → get_or first a None ≡ Some z → (i : ℕ) → i < n → get_or first i None ≡ None → (x : Submitted) → Q i x → ⊥
    none_again z has i lt e x q = elim (back i x q) [
      | inl p ↦ old.none i lt e x p
      | inr w ↦ none-some z (sym e ∙ ap (λ k. get_or first k None) w.0 ∙ has)
    ]

    pub tracked_nowhere : ((a < length first) × (a < length double) → ⊥) → IsTracked Q n first double
    tracked_nowhere out = record {
      size_first = old.size_first;
      size_double = old.size_double;
      none = λ i lt e x q. old.none i lt e x (narrow i lt x q);
      some = λ i x lt e. to i x (old.some i x lt e);
      same = λ i x lt e f y q. old.same i x lt e f y (narrow i lt y q);
      differ = differs;
    }
      where
        narrow : (i : ℕ) → i < n → (x : Submitted) → Q i x → P i x
        narrow i lt x q = elim (back i x q) [
          | inl p ↦ p
          | inr w ↦ absurd (out (omega (arith, w.0, old.size_first), omega (arith, w.0, old.size_double)))
        ]

    pub tracked_first : a < length first → get_or first a None ≡ None → IsTracked Q n (set first a (Some s)) double
    tracked_first a_lt empty = record {
      size_first = length_set first a (Some s) ∙ old.size_first;
      size_double = old.size_double;
      none = λ i lt e x q. elim (cases_eq i a) [
        | inl same ↦ none-some s (sym e ∙ At i same)
        | inr ne ↦ elim (back i x q) [ inl p ↦ old.none i lt (sym (Off i ne) ∙ e) x p | inr w ↦ ne w.0 ]
      ];
      some = λ i x lt e. elim (cases_eq i a) [
        | inl same ↦ subst (λ k. Q k x) (sym same) (subst (Q a) (same_Some s x (sym (At i same) ∙ e)) here)
        | inr ne ↦ to i x (old.some i x lt (sym (Off i ne) ∙ e))
      ];
      same = λ i x lt e f y q. elim (cases_eq i a) [
        | inl same ↦ elim (back i y q) [
          | inl p ↦ absurd (old.none i lt (ap (λ k. get_or first k None) same ∙ empty) y p)
          | inr w ↦ w.1 ∙ same_Some s x (sym (At i same) ∙ e)
        ]
        | inr ne ↦ elim (back i y q) [ inl p ↦ old.same i x lt (sym (Off i ne) ∙ e) f y p | inr w ↦ absurd (ne w.0) ]
      ];
      differ = differs;
    }
      where
        At : (i : ℕ) → i ≡ a → get_or (set first a (Some s)) i None ≡ Some s
        At i same = ap (λ k. get_or (set first a (Some s)) k None) same ∙ get_or-set_same first a (Some s) None a_lt

        Off : (i : ℕ) → (i ≡ a → ⊥) → get_or (set first a (Some s)) i None ≡ get_or first i None
        Off i ne = get_or-set_other first a i (Some s) None ne

    pub tracked_again : get_or first a None ≡ Some s → IsTracked Q n first double
    tracked_again has = record {
      size_first = old.size_first;
      size_double = old.size_double;
      none = none_again s has;
      some = λ i x lt e. to i x (old.some i x lt e);
      same = λ i x lt e f y q. elim (back i y q) [
        | inl p ↦ old.same i x lt e f y p
        | inr w ↦ w.1 ∙ same_Some s x (sym has ∙ ap (λ k. get_or first k None) (sym w.0) ∙ e)
      ];
      differ = differs;
    }

    pub tracked_other : (z : Submitted) → get_or first a None ≡ Some z → (z ≡ s → ⊥) → a < length double → IsTracked Q n first (set double a true)
    tracked_other z has unlike a_lt = record {
      size_first = old.size_first;
      size_double = length_set double a true ∙ old.size_double;
      none = none_again z has;
      some = λ i x lt e. to i x (old.some i x lt e);
      same = λ i x lt e f y q. elim (cases_eq i a) [
        | inl same ↦ absurd (false≢true (sym f ∙ ap (λ k. get_or (set double a true) k false) same ∙ get_or-set_same double a true false a_lt))
        | inr ne ↦ elim (back i y q) [ inl p ↦ old.same i x lt e (sym (get_or-set_other double a i true false ne) ∙ f) y p | inr w ↦ absurd (ne w.0) ]
      ];
      differ = λ i lt t. elim (cases_eq i a) [
        | inl same ↦ (z, s, to i z (old.some i z lt (ap (λ k. get_or first k None) same ∙ has)), subst (λ k. Q k s) (sym same) here, unlike)
        | inr ne ↦ differs i lt (sym (get_or-set_other double a i true false ne) ∙ t)
      ];
    }

    renamed : {f : List (Option Submitted)} {d : List Bool} (new_first : List (Option Submitted)) (new_double : List Bool) → new_first ≡ f → new_double ≡ d
        → IsTracked Q n f d → IsTracked Q n new_first new_double
    renamed {f} {d} new_first new_double e h t = subst (λ l. IsTracked Q n l new_double) (sym e) (subst (IsTracked Q n f) (sym h) t)

    pub tracked_noted : (new_first : List (Option Submitted)) (new_double : List Bool) → IsNoted a s first new_first double new_double → IsTracked Q n new_first new_double
    tracked_noted new_first new_double (nowhere out f d) = renamed new_first new_double f d (tracked_nowhere out)
    tracked_noted new_first new_double (is_first lt e f d) = renamed new_first new_double f d (tracked_first lt e)
    tracked_noted new_first new_double (again e f d) = renamed new_first new_double f d (tracked_again e)
    tracked_noted new_first new_double (other z e unlike lt f d) = renamed new_first new_double f d (tracked_other z e unlike lt)

at_replicate : {X : Type 0} (x : X) (n i : ℕ) → get_or (replicate n x) i x ≡ x
at_replicate x zero i = refl
at_replicate x (suc n) zero = refl
at_replicate x (suc n) (suc i) = at_replicate x n i

length_of : {X : Type 0} (n : ℕ) (x : X) → length (replicate n x) ≡ n
length_of zero x = refl
length_of (suc n) x = ap suc (length_of n x)

-- nothing is submitted yet
pub tracked_nothing : (P : ℕ → Submitted → Type 0) (n : ℕ) → ((i : ℕ) (x : Submitted) → P i x → ⊥) → IsTracked P n (replicate n None) (replicate n false)
tracked_nothing P n nothing = record {
  size_first = length_of n None;
  size_double = length_of n false;
  none = λ i lt e x p. nothing i x p;
  some = λ i x lt e. absurd (none-some x (sym (at_replicate None n i) ∙ e));
  same = λ i x lt e f y p. absurd (nothing i y p);
  differ = λ i lt t. absurd (false≢true (sym (at_replicate false n i) ∙ t));
}

-- the submissions of a client, by its own envelopes and by entries
abbrev pub Made : Trial → List Submitted → ℕ → Submitted → Type 0
Made trial entered i x = Says trial.given (client i) (kinds.Submission (round_of trial) x.prev x.client x.digest) ⊎ (Contains entered x × (x.client.0 ≡ i))

module _ (trial : Trial) (entered : List Submitted) (are : AreEntered trial entered) where
  made_heard : (i : ℕ) (x : Submitted) → Made trial entered i x → Submits trial i (kinds.Submission (round_of trial) x.prev x.client x.digest)
  made_heard i x (inl says) = record { prev = x.prev; named = x.client; digest = x.digest; is = refl; heard = inl says }
  made_heard i x (inr made) = record {
    prev = x.prev;
    named = x.client;
    digest = x.digest;
    is = refl;
    heard = inr (inr (subst (λ w. IsEntered trial w (kinds.Submission (round_of trial) x.prev x.client x.digest)) (λ t. Client record { 0 = made.1 t })
        (All-contains (λ y. IsEntered trial (Client y.client) (kinds.Submission (round_of trial) y.prev y.client y.digest)) entered x are.each made.0)));
  }

  abbrev submitted_by : (i : ℕ) (s : Statement) → Submits trial i s → Submitted
  submitted_by i s m = record { prev = m.prev; client = m.named; digest = m.digest }

  heard_made : (i : ℕ) (prev : Round) (named : ClientId) (digest : List ℕ) → Heard trial (client i) (kinds.Submission (round_of trial) prev named digest)
      → Made trial entered i record { prev = prev; client = named; digest = digest }
  heard_made i prev named digest (inl says) = inl says
  heard_made i prev named digest (inr (inl carried)) = let e = carried.is in absurd cc
  heard_made i prev named digest (inr (inr e)) =
      let w = are.whole record { 0 = i } named prev digest e in
      inr (subst (λ c. Contains entered record { prev = prev; client = c; digest = digest }) (sym w.0) w.1, ap (λ c. c.0) w.0)

  pub doubles_told : (first : List (Option Submitted)) (double : List Bool) → IsTracked (Made trial entered) (clients_of trial) first double
      → Tells double (clients_of trial) (IsDouble trial)
  doubles_told first double t = record {
    size = t.size_double;
    each = λ i lt. (
      (λ on.
          let d = t.differ i lt on in
          let x = d.0 in
          let y = d.1 in
          record {
            one = kinds.Submission (round_of trial) x.prev x.client x.digest;
            submits_one = made_heard i x d.2;
            other = kinds.Submission (round_of trial) y.prev y.client y.digest;
            submits_other = made_heard i y d.3;
            differ = λ e.
                let prev : x.prev ≡ y.prev = cc in
                let named : x.client ≡ y.client = cc in
                let digest : x.digest ≡ y.digest = cc in
                d.4 (λ k. record { prev = prev k; client = named k; digest = digest k });
          }),
      (λ d. elim (cases_Bool (get_or double i false)) [
        | inl on ↦ on
        | inr off ↦
            let a = d.submits_one in
            let b = d.submits_other in
            let x = submitted_by i d.one a in
            let y = submitted_by i d.other b in
            let px = heard_made i a.prev a.named a.digest (subst (Heard trial (client i)) a.is a.heard) in
            let py = heard_made i b.prev b.named b.digest (subst (Heard trial (client i)) b.is b.heard) in
            absurd (One i lt x y px py off (λ e. d.differ (a.is ∙ ap (λ z. kinds.Submission (round_of trial) z.prev z.client z.digest) e ∙ sym b.is)))
      ]),
    );
  }
    where
      Found : (i : ℕ) → i < clients_of trial → (x y : Submitted) → Made trial entered i x → Made trial entered i y → get_or double i false ≡ false → (x ≡ y → ⊥)
          → (o : Option Submitted) → get_or first i None ≡ o → ⊥
      Found i lt x y px py off differ None e = t.none i lt e x px
      Found i lt x y px py off differ (Some z) e = differ (t.same i z lt e off x px ∙ sym (t.same i z lt e off y py))

      One : (i : ℕ) → i < clients_of trial → (x y : Submitted) → Made trial entered i x → Made trial entered i y → get_or double i false ≡ false → (x ≡ y → ⊥) → ⊥
      One i lt x y px py off differ = Found i lt x y px py off differ (get_or first i None) refl

-- the submissions of a client by its own envelopes, before place n
abbrev pub Own : Trial → ℕ → ℕ → Submitted → Type 0
Own trial n i x = Says (take n trial.given) (client i) (kinds.Submission (round_of trial) x.prev x.client x.digest)

client_number : (i j : ℕ) → client i ≡ client j → i ≡ j
client_number i j e = let same : id i ≡ id j = cc in ap (λ x. x.0) same
  where
    id : ℕ → ClientId
    id n = record { 0 = n }

same_submitted : (r : Round) (x y : Submitted) → kinds.Submission r x.prev x.client x.digest ≡ kinds.Submission r y.prev y.client y.digest → x ≡ y
same_submitted r x y e =
    let prev : x.prev ≡ y.prev = cc in
    let named : x.client ≡ y.client = cc in
    let digest : x.digest ≡ y.digest = cc in
    (λ k. record { prev = prev k; client = named k; digest = digest k })

module _ (trial : Trial) (n : ℕ) (x : SaidView) (lt : n < length trial.given) (at : get_or trial.given n x ≡ x)
    (first : List (Option Submitted)) (double : List Bool) (old : IsTracked (Own trial n) (clients_of trial) first double) where
  own_kept : (i : ℕ) (s : Submitted) → Own trial n i s → Own trial (n + 1) i s
  own_kept i s o = said_kept trial.given n x lt at (client i) (kinds.Submission (round_of trial) s.prev s.client s.digest) o

  pub own_skip : ((i : ℕ) (s : Submitted) → x.signer ≡ client i → x.statement ≡ kinds.Submission (round_of trial) s.prev s.client s.digest → ⊥)
      → IsTracked (Own trial (n + 1)) (clients_of trial) first double
  own_skip skip = tracked_same (Own trial n) (Own trial (n + 1)) (clients_of trial) own_kept first double
      (λ i s o. elim (said_cases trial.given n x lt at (client i) (kinds.Submission (round_of trial) s.prev s.client s.digest) o) [
        | inl before ↦ before
        | inr here ↦ absurd (skip i s here.0 here.1)
      ]) old

  pub own_noted : (a : ℕ) (s : Submitted) → x.signer ≡ client a → x.statement ≡ kinds.Submission (round_of trial) s.prev s.client s.digest
      → (new_first : List (Option Submitted)) (new_double : List Bool) → IsNoted a s first new_first double new_double
      → IsTracked (Own trial (n + 1)) (clients_of trial) new_first new_double
  own_noted a s by is new_first new_double noted = tracked_noted (Own trial n) (Own trial (n + 1)) (clients_of trial) own_kept a s
      (λ i y o. elim (said_cases trial.given n x lt at (client i) (kinds.Submission (round_of trial) y.prev y.client y.digest) o) [
        | inl before ↦ inl before
        | inr here ↦ inr (client_number i a (sym here.0 ∙ by), same_submitted (round_of trial) y s (sym here.1 ∙ is))
      ])
      (subst (λ w. Says (take (n + 1) trial.given) w (kinds.Submission (round_of trial) s.prev s.client s.digest)) by
      (subst (Says (take (n + 1) trial.given) x.signer) is (said_new trial.given n x lt at)))
      first double old new_first new_double noted

module _ (trial : Trial) (entered : List Submitted) (n : ℕ) (d : Submitted) (lt : n < length entered)
    (first : List (Option Submitted)) (double : List Bool) (old : IsTracked (Made trial (take n entered)) (clients_of trial) first double) where
  made_kept : (i : ℕ) (x : Submitted) → Made trial (take n entered) i x → Made trial (take (n + 1) entered) i x
  made_kept i x (inl says) = inl says
  made_kept i x (inr made) = inr (contained_kept entered n d lt x made.0, made.1)

  made_back : (i : ℕ) (x : Submitted) → Made trial (take (n + 1) entered) i x → Made trial (take n entered) i x ⊎ ((i ≡ (get_or entered n d).client.0) × (x ≡ get_or entered n d))
  made_back i x (inl says) = inl (inl says)
  made_back i x (inr made) = elim (contained_cases entered n d lt x made.0) [
    | inl before ↦ inl (inr (before, made.1))
    | inr here ↦ inr (sym (ap (λ y. y.client.0) here ∙ made.1), sym here)
  ]

  pub made_noted : (new_first : List (Option Submitted)) (new_double : List Bool)
      → IsNoted (get_or entered n d).client.0 (get_or entered n d) first new_first double new_double
      → IsTracked (Made trial (take (n + 1) entered)) (clients_of trial) new_first new_double
  made_noted new_first new_double noted = tracked_noted (Made trial (take n entered)) (Made trial (take (n + 1) entered)) (clients_of trial) made_kept
      (get_or entered n d).client.0 (get_or entered n d) made_back (inr (contained_new entered n d lt, refl)) first double old new_first new_double noted
