-- A server stays honest where it says a statement of its round.
use Rattle.std.proofs.Common.{◌≡◌, ◌≢◌, ℕ, ◌-◌, ◌≤◌, Bool, true, false, List, [], ◌∷◌, ◌++◌, Some, None, sym, ap, subst, ◌∙◌, arith, inl, inr}
use Rattle.std.specs.Prelude.{Option, Contains, ◌⊎◌}
use Rattle.std.proofs.lemmas.List.Elements.{Contains-append_left, Contains-push, Contains-push_cases}
use Rattle.std.proofs.lemmas.Option.{same_Some}
use Rattle.dn_wire.specs.declared.ids.ClientId.{ClientId}
use Rattle.dn_wire.specs.declared.ids.Round.{Round}
use Rattle.dn_wire.specs.declared.ids.SignerId.{SignerId}
use Rattle.dn_record_types.specs.declared.body.Body.{Body}
use Rattle.dn_record_types.specs.declared.shown.ShownCipher.{ShownCipher}
use Rattle.dn_record_types.specs.declared.statement.Statement.{Statement}
use Rattle.dn_record_types.specs.declared.statement.Statement.TheVariants as kinds
use Rattle.dn_record_types.specs.declared.statement.WordTold.{WordTold}
use Rattle.dn_records.specs.Records.{kind_byte}
use Rattle.dn_seal.specs.Said.{SaidView}
use Rattle.dn_server.specs.declared.past.Past.{Past}
use Rattle.dn_server.specs.declared.run.Stage.{Stage}
use Rattle.dn_server.specs.declared.run.Stage.TheVariants as stages
use Rattle.dn_server.specs.declared.run.Sum.{Sum}
use Rattle.dn_server.specs.Justified.{Justified}
use Rattle.dn_server.specs.Server.{ServerView, WasIncluded, past_of}
use Rattle.dn_server.specs.Keeping.{round_of}
use Rattle.dn_exchange.specs.Disciplined.{IsSaidBy, IsPast, IsPastAs, commit_to, HasSaidNone}
use Rattle.dn_exchange.specs.Honest.{IsSaidAt, aside_at, AreFitting, IsHonest}
use Rattle.dn_exchange.proofs.Grows.{justified_grows, same_chain}
use Rattle.dn_exchange.proofs.HonestMoves.{KeepsMore}
use Rattle.dn_exchange.proofs.OwnKept.{OneKept}

-- a statement that is one of those of a round
pub of_round_no_receipt : (s : Statement) (q : Round) → round_of s ≡ Some q → (r : Round) (i : ClientId) (d : List ℕ) (w : WordTold) → s ≢ kinds.Receipt r i d w
of_round_no_receipt s q e r i d w is = let never : None ≡ Some q = sym (ap round_of is) ∙ e in cc

pub of_round_no_pads : (s : Statement) (q : Round) → round_of s ≡ Some q → (r : Round) (k : ℕ) (bits : List Bool) → s ≢ kinds.PadBits r k bits
of_round_no_pads s q e r k bits is = let never : None ≡ Some q = sym (ap round_of is) ∙ e in cc

pub of_round_no_shown : (s : Statement) (q : Round) → round_of s ≡ Some q → (r : Round) (x : List Bool) (own : List ShownCipher) → s ≢ kinds.Shown r x own
of_round_no_shown s q e r x own is = let never : None ≡ Some q = sym (ap round_of is) ∙ e in cc

module _ (v : ServerView) (h : IsHonest v) (s : Statement) (stage : Stage) (sum : Option Sum) (kept : List SaidView) (pasts : List Past) (bend : Option ℕ) where
  -- the server after it said the statement
  abbrev pub spoke : ServerView
  spoke = record v { signed = v.signed ++ s ∷ []; aside = v.aside - 1; bend = bend; pasts = pasts; run = record v.run { stage = stage; sum = sum; kept = kept } }

  -- it is a statement of the round, and the first of its kind; and what is kept grows
  pub record CanSay : Type 0 where
    pub straight : bend ≡ None
    pub low : 1 ≤ v.run.r.0
    pub round : round_of s ≡ Some v.run.r
    pub few : (2 ≤ kind_byte s) × (kind_byte s ≤ 8)
    pub first : HasSaidNone v (kind_byte s)
    pub grown : KeepsMore v.run.kept kept
    pub one : OneKept kept
    pub fitting : v.run.is_running ≡ true → AreFitting v kept
    pub enough : v.run.is_running ≡ true → aside_at stage ≤ v.aside - 1
    pub moved : stage ≢ stages.Collecting

  -- what is known of it by its kind, and of the pasts
  pub record Fits : Type 0 where
    pub said : IsSaidAt stage spoke
    pub reveal : (r : Round) (x : List Bool) → s ≡ kinds.Reveal r x → Contains v.signed (commit_to v.seat r x)
    pub sign : (b : Body) → s ≡ kinds.Sign b → Justified (IsSaidBy v) (WasIncluded v.run) v.seat v.chain b
    pub past : (b : Body) → s ≡ kinds.Sign b → (past : Past) × Contains pasts past × (past.body ≡ b)
    pub pasts_stay : (past : Past) → Contains v.pasts past → Contains pasts past
    pub pasts_come : (past : Past) → Contains pasts past → Contains v.pasts past ⊎ ((s ≡ kinds.Sign past.body) × IsPast v past)
    pub found : (r : ℕ) (past : Past) → past_of v.pasts r ≡ Some past → past_of pasts r ≡ Some past

  module _ (can : CanSay) (fits : Fits) where
    old : (t : Statement) → Contains v.signed t → Contains (v.signed ++ s ∷ []) t
    old t c = Contains-append_left v.signed (s ∷ []) t c

    cases : (t : Statement) → Contains (v.signed ++ s ∷ []) t → Contains v.signed t ⊎ (s ≡ t)
    cases t c = Contains-push_cases v.signed s t c

    no_receipt : (r : Round) (i : ClientId) (d : List ℕ) (w : WordTold) → Contains (v.signed ++ s ∷ []) (kinds.Receipt r i d w) → Contains v.signed (kinds.Receipt r i d w)
    no_receipt r i d w c = elim (cases (kinds.Receipt r i d w) c) [ inl was ↦ was | inr new ↦ absurd (of_round_no_receipt s v.run.r can.round r i d w new) ]

    says_on : (who : SignerId) (t : Statement) → IsSaidBy v who t → IsSaidBy spoke who t
    says_on who t (inl own) = inl (own.0, old t own.1)
    says_on who t (inr other) = inr (other.0, (other.1.0, can.grown.there other.1.0 other.1.1, other.1.2, other.1.3))

    included_on : (t : Statement) (c : List Bool) → WasIncluded v.run t c → WasIncluded spoke.run t c
    included_on t c x = record { client = x.client; claim = x.claim; claimed = x.claimed; told = x.told; is = x.is; cipher = x.cipher }

    justified_on : (b : Body) → Justified (IsSaidBy v) (WasIncluded v.run) v.seat v.chain b → Justified (IsSaidBy spoke) (WasIncluded spoke.run) v.seat v.chain b
    justified_on b j = justified_grows (IsSaidBy v) (IsSaidBy spoke) (WasIncluded v.run) (WasIncluded spoke.run) says_on included_on v.seat v.chain v.chain b (same_chain v.chain h.chain) j

    past_on : (thin : Bool) (past : Past) → IsPastAs thin v past → IsPastAs thin spoke past
    past_on true past x = x
    past_on false past x = record { layout = x.layout; after = x.after; long = x.long; rows = x.rows; value = x.value; digest = x.digest }

    -- the second of two statements of one kind and round would be the first
    once : (t : Statement) (r : Round) → Contains v.signed t → round_of s ≡ Some r → round_of t ≡ Some r → kind_byte s ≡ kind_byte t → ⊥
    once t r there at_s at_t kind =
        let same : v.run.r ≡ r = same_Some v.run.r r (sym can.round ∙ at_s) in
        can.first t there (at_t ∙ ap Some (sym same)) (sym kind)

    pub spoke_honest : IsHonest spoke
    spoke_honest = record {
      chain = h.chain;
      straight = can.straight;
      of_kinds = λ t c. elim (cases t c) [ inl was ↦ h.of_kinds t was | inr new ↦ subst (λ (x : Statement). (2 ≤ kind_byte x) × (kind_byte x ≤ 8)) new can.few ];
      rounds = λ t r c at.
          elim (cases t c) [
            | inl was ↦ h.rounds t r was at
            | inr new ↦
                let same : v.run.r ≡ r = same_Some v.run.r r (sym can.round ∙ ap round_of new ∙ at) in
                subst (λ (q : Round). (1 ≤ q.0) × (q.0 ≤ v.run.r.0)) same (can.low, omega arith)
          ];
      receipt_rounds = λ r i d w c. h.receipt_rounds r i d w (no_receipt r i d w c);
      one_each = λ t u r in_t in_u at_t at_u kind.
          elim (cases t in_t) [
            | inl was_t ↦ elim (cases u in_u) [
              | inl was_u ↦ h.one_each t u r was_t was_u at_t at_u kind
              | inr new_u ↦ absurd (once t r was_t (ap round_of new_u ∙ at_u) at_t (ap kind_byte new_u ∙ sym kind))
            ]
            | inr new_t ↦ elim (cases u in_u) [
              | inl was_u ↦ absurd (once u r was_u (ap round_of new_t ∙ at_t) at_u (ap kind_byte new_t ∙ kind))
              | inr new_u ↦ sym new_t ∙ new_u
            ]
          ];
      one_receipt = λ r i d e w x c k. h.one_receipt r i d e w x (no_receipt r i d w c) (no_receipt r i e x k);
      receipts = λ i d w c. h.receipts i d w (no_receipt v.run.r i d w c);
      claims = λ i claim there. old (kinds.Receipt v.run.r i claim.digest claim.told) (h.claims i claim there);
      reveals = λ r x c.
          elim (cases (kinds.Reveal r x) c) [
            | inl was ↦ old (commit_to v.seat r x) (h.reveals r x was)
            | inr new ↦ old (commit_to v.seat r x) (fits.reveal r x new)
          ];
      course = h.course;
      said = fits.said;
      signs = λ b c round.
          elim (cases (kinds.Sign b) c) [
            | inl was ↦ justified_on b (h.signs b was round)
            | inr new ↦ justified_on b (fits.sign b new)
          ];
      pasts = λ b c.
          elim (cases (kinds.Sign b) c) [
            | inl was ↦ let p = h.pasts b was in (p.0, fits.pasts_stay p.0 p.1, p.2)
            | inr new ↦ fits.past b new
          ];
      past_are = λ past there.
          elim (fits.pasts_come past there) [
            | inl was ↦ let x = h.past_are past was in (old (kinds.Sign past.body) x.0, past_on past.body.thin past x.1)
            | inr new ↦ (subst (λ (t : Statement). Contains (v.signed ++ s ∷ []) t) new.0 (Contains-push v.signed s), past_on past.body.thin past new.1)
          ];
      openings = record {
        pads = λ r k bits c.
            elim (cases (kinds.PadBits r k bits) c) [
              | inl was ↦
                  let x = h.openings.pads r k bits was in
                  record {
                    body = x.body;
                    past = x.past;
                    signed = record { held = x.signed.held; round = x.signed.round; kept = fits.found r.0 x.past x.signed.kept; of_body = x.signed.of_body };
                    full = x.full;
                    within = x.within;
                    true_bits = x.true_bits;
                  }
              | inr new ↦ absurd (of_round_no_pads s v.run.r can.round r k bits new)
            ];
        shown = λ r x own c.
            elim (cases (kinds.Shown r x own) c) [
              | inl was ↦
                  let y = h.openings.shown r x own was in
                  record {
                    body = y.body;
                    past = y.past;
                    signed = record { held = y.signed.held; round = y.signed.round; kept = fits.found r.0 y.past y.signed.kept; of_body = y.signed.of_body };
                    full = y.full;
                    are = y.are;
                  }
              | inr new ↦ absurd (of_round_no_shown s v.run.r can.round r x own new)
            ];
      };
      one_kept = can.one;
      fitting = can.fitting;
      listed = λ on at. absurd (can.moved at);
      set_aside = can.enough;
    }
