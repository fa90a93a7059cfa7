use Rattle.std.proofs.Common.{◌≡◌, eqb, not, sym, ap, ◌∙◌, inl, inr}
use Rattle.std.proofs.lemmas.Bool.{false≢true, cases_Bool, not-true, not-false}
use Rattle.std.specs.Cmp.Lexicographic.{pointwise}
use Rattle.std.proofs.lemmas.Slice.Eq.{bytes_eq-Decides}
use Rattle.dn_bits.specs.Bits.{bytes_of}
use Rattle.dn_hash.specs.Digests.{server_digest_of}
use Rattle.dn_record_types.specs.declared.statement.Statement.TheVariants as kinds
use Rattle.dn_seal.specs.Dealt.{server}
use Rattle.dn_trace.specs.Trial.{round_of, Says}
use Rattle.dn_trace.proofs.OwnLemmas.{reveal_given, commit_given, commit_right, says_at}
use Rattle.dn_trace.proofs.own_faults.has_false_commit.Goals as goal

pub returns-in_default : goal.returns-in_default
returns-in_default c =
    let trial = c.args.case.now in
    let j = c.args.j.0 in (
      (λ t. absurd (false≢true t)),
      (λ f. absurd (c.in_default.ensures f.s
          (says_at trial.given c.given.result.now (server j) (kinds.Reveal (round_of trial) f.s) (kinds.Reveal c.round.result f.s)
          (sym c.given.ensures.value) (ap (λ r. kinds.Reveal r f.s) (sym c.round.ensures)) (reveal_given trial j f.s f.revealed)))),
    )

pub returns-in_default-first_committed : goal.returns-in_default-first_committed
returns-in_default-first_committed c =
    let trial = c.args.case.now in
    let j = c.args.j.0 in (
      (λ t. absurd (false≢true t)),
      (λ f. absurd (c.in_default-first_committed.ensures f.digest
          (says_at trial.given c.given-2.result.now (server j) (kinds.Commit (round_of trial) f.digest) (kinds.Commit c.round-2.result f.digest)
          (sym c.given-2.ensures.value) (ap (λ r. kinds.Commit r f.digest) (sym c.round-2.ensures)) (commit_given trial j f.digest f.told)))),
    )

pub returns : goal.returns
returns c =
    let trial = c.args.case.now in
    let j = c.args.j.0 in
    let s = c.in-Some.s.now in
    let d = c.in-Some-first_committed.digest in
    let due = server_digest_of (round_of trial).0 j (bytes_of s) in
    let own : c.server_digest.result ≡ due = c.server_digest.ensures
    ∙ (λ i. server_digest_of (c.round-3.ensures i).0 j ((c.deref.ensures.value ∙ c.in_ok-bytes.ensures) i)) in
    let compared : c.ne.result ≡ not (pointwise eqb due d) = c.ne.ensures ∙ ap (λ x. not (pointwise eqb x d)) own in
    let decides = bytes_eq-Decides due d in
    let revealed : Says trial.given (server j) (kinds.Reveal (round_of trial) s) =
    says_at c.given.result.now trial.given (server j) (kinds.Reveal c.round.result s) (kinds.Reveal (round_of trial) s) c.given.ensures.value (ap (λ r. kinds.Reveal r s) c.round.ensures) c.in-Some.ensures in
    let told : Says trial.given (server j) (kinds.Commit (round_of trial) d) =
    says_at c.given-2.result.now trial.given (server j) (kinds.Commit c.round-2.result d) (kinds.Commit (round_of trial) d) c.given-2.ensures.value (ap (λ r. kinds.Commit r d) c.round-2.ensures) c.in-Some-first_committed.ensures in (
      (λ t. record {
        s = s;
        revealed = inl revealed;
        digest = d;
        told = inl told;
        differ = λ e. false≢true (sym (not-true (pointwise eqb due d) (sym compared ∙ t)) ∙ decides.1 e);
      }),
      (λ f. elim (cases_Bool c.ne.result) [
        | inl is ↦ is
        | inr is ↦ absurd (commit_right trial j c.requires s d (inl revealed) (inl told) (decides.0 (not-false (pointwise eqb due d) (sym compared ∙ is))) f)
      ]),
    )
