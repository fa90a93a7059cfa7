-- The signatures in an envelope's bytes: its own, those that it lists, and those in the envelope that it carries.
use Rattle.std.proofs.Common.{◌≡◌, ℕ, ◌<◌, ◌≤◌, List, ◌++◌, length, length-append, Option, Some, refl, ap, sym, subst, ◌∙◌, arith}
use Rattle.std.specs.Prelude.{IfSome}
use Rattle.std.proofs.lemmas.List.Elements.{All-contains}
use Rattle.dn_record_types.specs.declared.envelope.Envelope.{Envelope}
use Rattle.dn_record_types.specs.declared.statement.Statement.{Statement}
use Rattle.dn_record_types.specs.declared.statement.Statement.TheVariants as kinds
use Rattle.dn_record_types.proofs.RecordLaws.{envelope_once}
use Rattle.dn_records.specs.Fields as fields
use Rattle.dn_records.specs.Records.{statement_bytes}
use Rattle.dn_roster.specs.Roster.{RosterView}
use Rattle.dn_seal.specs.Signer.{envelope}
use Rattle.dn_seal.proofs.EnvelopeLemmas.{length-envelope}
use Rattle.dn_audit.specs.Group.{GroupView}
use Rattle.dn_audit.specs.Signatures.{IsEnvelopeOf}
use Rattle.dn_audit.specs.Signatures.SealedIn.{itself, entry, carried}
use Rattle.dn_audit.specs.Envelopes.{carried_of}
use Rattle.dn_audit.proofs.Lists.{All-from_contains}
use Rattle.dn_audit.specs.Auditor.{MayBeListed, MaySeal, MayListIn, SealsAreTheirs}

module _ (roster : RosterView) (group : GroupView) (signed : List (List ℕ)) where
  -- bytes that are no envelope have no signature
  pub no_seal : (bytes : List ℕ) → ((e : Envelope) → IsEnvelopeOf bytes e → ⊥) → SealsAreTheirs roster group signed bytes
  no_seal bytes never who s (itself u) honest = absurd (never (envelope who s u.signature) (record { fits = u.fits; spelled = u.spelled }))
  no_seal bytes never who s (entry e v x is eq there verifies) honest = absurd (never e is)
  no_seal bytes never who s (carried e r k server seed d is eq sealed) honest = absurd (never e is)

  abbrev pub PartsAreTheirs : Envelope → Type 0
  PartsAreTheirs e = MaySeal roster group signed e × IfSome (carried_of e.statement) (SealsAreTheirs roster group signed)

  list_all : (bytes : List ℕ) (e : Envelope) (at : IsEnvelopeOf bytes e) (s : Statement) → e.statement ≡ s → SealsAreTheirs roster group signed bytes → MayListIn roster group signed s
  list_all bytes e at (kinds.Inventory v) is theirs = All-from_contains (MayBeListed roster group signed v) v.entries
      (λ x there honest key known verifies. theirs _ _ (entry e v x at is there (key, known, verifies)) honest)
  list_all bytes e at (kinds.Submission r prev i d) is theirs = tt
  list_all bytes e at (kinds.Receipt r i d t) is theirs = tt
  list_all bytes e at (kinds.Commit r d) is theirs = tt
  list_all bytes e at (kinds.Reveal r s) is theirs = tt
  list_all bytes e at (kinds.Sign b) is theirs = tt
  list_all bytes e at (kinds.PadBits r k bits) is theirs = tt
  list_all bytes e at (kinds.Shown r s shown) is theirs = tt
  list_all bytes e at (kinds.Accusation r s k) is theirs = tt
  list_all bytes e at (kinds.Rebuttal r k j seed d) is theirs = tt
  list_all bytes e at (kinds.Concede r k) is theirs = tt

  carry : (bytes : List ℕ) (e : Envelope) (at : IsEnvelopeOf bytes e) (s : Statement) → e.statement ≡ s → SealsAreTheirs roster group signed bytes
      → IfSome (carried_of s) (SealsAreTheirs roster group signed)
  carry bytes e at (kinds.Rebuttal r k j seed d) is theirs = λ who t sealed honest. theirs who t (carried e r k j seed d at is sealed) honest
  carry bytes e at (kinds.Inventory v) is theirs = tt
  carry bytes e at (kinds.Submission r prev i d) is theirs = tt
  carry bytes e at (kinds.Receipt r i d t) is theirs = tt
  carry bytes e at (kinds.Commit r d) is theirs = tt
  carry bytes e at (kinds.Reveal r s) is theirs = tt
  carry bytes e at (kinds.Sign b) is theirs = tt
  carry bytes e at (kinds.PadBits r k bits) is theirs = tt
  carry bytes e at (kinds.Shown r s shown) is theirs = tt
  carry bytes e at (kinds.Accusation r s k) is theirs = tt
  carry bytes e at (kinds.Concede r k) is theirs = tt

  pub to_parts : (bytes : List ℕ) (e : Envelope) → IsEnvelopeOf bytes e → SealsAreTheirs roster group signed bytes → PartsAreTheirs e
  to_parts bytes e at theirs = (
    record {
      itself = λ honest key known verifies. theirs e.signer e.statement
          (itself (record { signature = e.signature; key = key; fits = at.fits; spelled = at.spelled; known = known; verifies = verifies })) honest;
      lists = list_all bytes e at e.statement refl theirs;
    },
    carry bytes e at e.statement refl theirs,
  )

  one : (bytes : List ℕ) (e d : Envelope) → IsEnvelopeOf bytes e → IsEnvelopeOf bytes d → e ≡ d
  one bytes e d a b = envelope_once e d a.fits b.fits (sym a.spelled ∙ b.spelled)

  pub from_parts : (bytes : List ℕ) (e : Envelope) → IsEnvelopeOf bytes e → PartsAreTheirs e → SealsAreTheirs roster group signed bytes
  from_parts bytes e at parts who s (itself u) honest =
      let same = one bytes e (envelope who s u.signature) at (record { fits = u.fits; spelled = u.spelled }) in
      let may = subst (λ (z : Envelope). MaySeal roster group signed z) same parts.0 in
      may.itself honest u.key u.known u.verifies
  from_parts bytes e at parts who s (entry d v x is eq there verifies) honest =
      let same = one bytes e d at is in
      let lists = subst (MayListIn roster group signed) (ap (λ (z : Envelope). z.statement) same ∙ eq) parts.0.lists in
      All-contains (MayBeListed roster group signed v) v.entries x lists there honest verifies.0 verifies.1 verifies.2
  from_parts bytes e at parts who s (carried d r k server seed x is eq sealed) honest =
      let same = one bytes e d at is in
      let inside = subst (λ (z : Statement). IfSome (carried_of z) (SealsAreTheirs roster group signed)) (ap (λ (z : Envelope). z.statement) same ∙ eq) parts.1 in
      inside who s sealed honest

-- what a statement carries is no longer than its bytes
carried_short : (s : Statement) → IfSome (carried_of s) (λ d. length d ≤ length (statement_bytes s))
unfolding statement_bytes
carried_short (kinds.Rebuttal r k j seed d) =
    let a = length-append (fields.round.spell r) (fields.word.spell k ++ (fields.server_field.spell j ++ (seed ++ ((fields.up_to 65535).spell (length d) ++ d)))) in
    let b = length-append (fields.word.spell k) (fields.server_field.spell j ++ (seed ++ ((fields.up_to 65535).spell (length d) ++ d))) in
    let c = length-append (fields.server_field.spell j) (seed ++ ((fields.up_to 65535).spell (length d) ++ d)) in
    let e = length-append seed ((fields.up_to 65535).spell (length d) ++ d) in
    let f = length-append ((fields.up_to 65535).spell (length d)) d in
    omega (arith, a, b, c, e, f)
carried_short (kinds.Inventory v) = tt
carried_short (kinds.Submission r prev i d) = tt
carried_short (kinds.Receipt r i d t) = tt
carried_short (kinds.Commit r d) = tt
carried_short (kinds.Reveal r s) = tt
carried_short (kinds.Sign b) = tt
carried_short (kinds.PadBits r k bits) = tt
carried_short (kinds.Shown r s shown) = tt
carried_short (kinds.Accusation r s k) = tt
carried_short (kinds.Concede r k) = tt

-- an envelope that another one carries is shorter
pub shorter : (bytes : List ℕ) (e : Envelope) (d : List ℕ) → IsEnvelopeOf bytes e → carried_of e.statement ≡ Some d → length d < length bytes
shorter bytes e d at is =
    let short = subst (λ (o : Option (List ℕ)). IfSome o (λ x. length x ≤ length (statement_bytes e.statement))) is (carried_short e.statement) in
    omega (arith, short, ap length at.spelled, length-envelope e.signer e.statement e.signature)

-- nothing is no envelope
pub never_empty : (bytes : List ℕ) → length bytes ≡ 0 → (e : Envelope) → IsEnvelopeOf bytes e → ⊥
never_empty bytes none e at = omega (arith, none, ap length at.spelled, length-envelope e.signer e.statement e.signature)
