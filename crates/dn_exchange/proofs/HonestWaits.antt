-- A server that can take no step has gone on as far as it can.
use Rattle.std.proofs.Common.{◌≡◌, ◌≢◌, ℕ, zero, suc, ◌+◌, ◌<◌, ◌≤◌, ◌^◌, Bool, true, false, List, [], ◌∷◌, ◌++◌, length, get_or, Some, None, refl, sym, ap, subst, ◌∙◌, arith, inl, inr}
use Rattle.std.specs.Prelude.{Option, All, option_map}
use Rattle.std.proofs.lemmas.Bool.{cases_lt}
use Rattle.std.proofs.lemmas.List.Elements.{All-head, All-tail}
use Rattle.std.proofs.lemmas.Option.{same_Some, slice_get-get_or}
use Rattle.dn_bits.specs.Bits.{sum_bits}
use Rattle.dn_record_types.specs.declared.body.Body.{Body}
use Rattle.dn_record_types.specs.declared.body.Listed.{Listed}
use Rattle.dn_record_types.specs.declared.shown.ShownCipher.{ShownCipher}
use Rattle.dn_record_types.specs.declared.payload.Payload.TheVariants as payloads
use Rattle.dn_record_types.specs.declared.statement.Statement.{Statement}
use Rattle.dn_record_types.specs.declared.statement.Statement.TheVariants as kinds
use Rattle.dn_records.specs.Records.{kind_byte, payload_bytes, IsPayload}
use Rattle.dn_roster.specs.Roster.{RosterView, digest_of}
use Rattle.dn_seal.specs.Said.{SaidView, IsSaid, IsUnder}
use Rattle.dn_cert.specs.Certificate.{CertificateView, IsOfRoster, IsSigned}
use Rattle.dn_cert.specs.Chain.{CanFollow}
use Rattle.dn_cert.specs.Trim.{given_to}
use Rattle.dn_server.specs.declared.run.Run.{Run}
use Rattle.dn_server.specs.declared.run.Stage.{Stage}
use Rattle.dn_server.specs.declared.run.Stage.TheVariants as stages
use Rattle.dn_server.specs.declared.run.Sum.{Sum}
use Rattle.dn_server.specs.Justified.{AreOfRows, AreIncluded, server_string}
use Rattle.dn_server.specs.Server.{ServerView, WasIncluded, is_of, kept_of, statement_of, servers_in, course_of}
use Rattle.dn_server.specs.Keeping.{HasAll}
use Rattle.dn_server.proofs.KeptLemmas.{All-find}
use Rattle.dn_server.proofs.Shapes.{sign_shape}
use Rattle.dn_server.proofs.KeptLemmas.{kept_kind, statement_said}
use Rattle.dn_rounds.specs.Certifying.{AreSignatures}
use Rattle.dn_rounds.specs.Going.{Stands, IsFree, HasLeaf, IsListing, IsCommitDue, IsRevealDue, IsBodyDue, IsThinDue, IsUnopposed, IsFirstAgainst, IsCertificateOf, commitment_of, turned}
use Rattle.dn_rounds.specs.Going.Step.{commits, reveals, signs, signs_thin, certifies, commit_conflicts, reveal_conflicts, body_opposed, thin_opposed}
use Rattle.dn_rounds.specs.Sound.{AreClaimed, IsClaimed}
use Rattle.dn_rounds.proofs.CertifyLemmas.{signature_by_is, signatures_more, are_signed}
use Rattle.dn_rounds.proofs.StepLemmas.{commits_kept, reveals_kept}
use Rattle.dn_exchange.specs.Honest.{IsHonest, IsSaidAt, Wants, HasGoneOn, aside_at}
use Rattle.dn_exchange.specs.Invariant.{IsSound, IsRunning, IsAtStage, HasSigned, standing_of}
use Rattle.dn_exchange.proofs.ReadyLemmas.{claimed_rows, by_recursion, statement_fits, statement_small, small_body}

-- the ciphertexts of rows that are claimed
record Owned (run : Run) (rows : List Listed) : Type 0 where
  own : List ShownCipher
  rows_are : AreOfRows (course_of run) rows own
  told : AreIncluded (WasIncluded run) (course_of run) rows own

owned : (run : Run) (rows : List Listed) → AreClaimed run rows → Owned run rows
owned run [] all = record { own = []; rows_are = tt; told = tt }
owned run (l ∷ ls) all =
    let first = All-head (IsClaimed run) l ls all in
    let rest : Owned run ls = owned run ls (All-tail (IsClaimed run) l ls all) in
    record {
      own = record { client = l.client; cipher = first.claim.cipher } ∷ rest.own;
      rows_are = (record { client = refl; long = first.long; digest = sym first.digest ∙ first.fits }, rest.rows_are);
      told = (record { client = l.client; claim = first.claim; claimed = first.there; told = first.told; is = ap (λ d. kinds.Submission run.r run.prev l.client d) (sym first.digest); cipher = refl }, rest.told);
    }

-- the signatures of the first n servers that are kept
signatures_kept : (roster : RosterView) (kept : List SaidView) (b : Body) → All IsSaid kept → All (IsUnder roster) kept
    → (n : ℕ) → ((j : ℕ) → j < n → statement_of kept 6 j ≡ Some (kinds.Sign b)) → (signatures : List (List ℕ)) × AreSignatures roster kept b n signatures
signatures_kept roster kept b said under zero all = ([], record { each = refl; by = λ j s e. absurd (let never = e in cc) })
signatures_kept roster kept b said under (suc n) all =
    let rest = signatures_kept roster kept b said under n (λ j lt. all j (omega (arith, lt))) in
    let says = all n (omega arith) in
    let found = statement_said kept 6 n (kinds.Sign b) says in
    let mine = signature_by_is roster kept b n found.0 found.0.signature found.1 says under (All-find IsSaid (is_of 6 n) kept found.0 said found.1) refl in
    let up : n + 1 ≡ suc n = omega arith in
    (rest.0 ++ found.0.signature ∷ [], subst (λ k. AreSignatures roster kept b k (rest.0 ++ found.0.signature ∷ [])) up (signatures_more roster kept b n rest.0 found.0.signature rest.1 mine))

module _ (v : ServerView) (h : IsHonest v) (sound : IsSound v) (straight : v.bent ≡ false) (runs : v.run.is_running ≡ true) (stands : Stands v) where
  run : IsRunning (standing_of v)
  run = sound.running runs

  at : (stage : Stage) → v.run.stage ≡ stage → IsSaidAt stage v
  at stage e = subst (λ (x : Stage). IsSaidAt x v) e h.said

  was : (stage : Stage) → v.run.stage ≡ stage → IsAtStage stage (standing_of v)
  was stage e = subst (λ (x : Stage). IsAtStage x (standing_of v)) e run.stage

  leaf : (stage : Stage) → v.run.stage ≡ stage → 1 ≤ aside_at stage → HasLeaf v
  leaf stage e some =
      let enough = subst (λ (x : Stage). aside_at x ≤ v.aside) e (h.set_aside runs) in
      let few = sound.aside straight in
      omega arith

  -- what is due is said, or a different statement is kept in its place: both are steps
  never_due : (s : Statement) → (IsFree v s → ⊥) → ((other : Statement) → statement_of v.run.kept (kind_byte s) v.seat.number ≡ Some other → (other ≢ s) → ⊥) → ⊥
  never_due s free conflicts = by (statement_of v.run.kept (kind_byte s) v.seat.number) refl
    where
      by : (o : Option Statement) → statement_of v.run.kept (kind_byte s) v.seat.number ≡ o → ⊥
      by None e = free (λ other is. absurd (let never : None ≡ Some other = sym e ∙ is in cc))
      by (Some other) e = conflicts other e (λ same. free (λ x is. sym (same_Some other x (sym e ∙ is)) ∙ same))

  -- no server signed another body, or one is the first that did: both are steps
  never_signed : (b : Body) → (IsUnopposed v b → ⊥) → ((j : ℕ) (other : Body) → IsFirstAgainst v b j other → ⊥) → ⊥
  never_signed b un first = go (servers_in v) (omega arith) un
    where
      go : (m : ℕ) → m ≤ servers_in v → (((x : ℕ) (c : Body) → x < m → statement_of v.run.kept 6 x ≡ Some (kinds.Sign c) → c ≡ b) → ⊥) → ⊥
      go zero le k = k (λ x c lt e. absurd (omega (arith, lt)))
      go (suc m) le k = go m (omega (arith, le)) (λ before. here before (kept_of v.run.kept 6 m) refl)
        where
          all : ((x : ℕ) (c : Body) → x < m → statement_of v.run.kept 6 x ≡ Some (kinds.Sign c) → c ≡ b) → ((c : Body) → statement_of v.run.kept 6 m ≡ Some (kinds.Sign c) → c ≡ b)
              → (x : ℕ) (c : Body) → x < suc m → statement_of v.run.kept 6 x ≡ Some (kinds.Sign c) → c ≡ b
          all before last x c lt e = elim (cases_lt x m) [
            | inl less ↦ before x c less e
            | inr ge ↦ let is : x ≡ m = omega (arith, lt, ge) in last c (subst (λ n. statement_of v.run.kept 6 n ≡ Some (kinds.Sign c)) is e)
          ]

          here : ((x : ℕ) (c : Body) → x < m → statement_of v.run.kept 6 x ≡ Some (kinds.Sign c) → c ≡ b) → (o : Option SaidView) → kept_of v.run.kept 6 m ≡ o → ⊥
          here before None e = k (all before (λ c is. absurd (let never : None ≡ Some (kinds.Sign c) = sym (ap (option_map (λ (y : SaidView). y.statement)) e) ∙ is in cc)))
          here before (Some y) e =
              let shape = sign_shape y.statement (kept_kind v.run.kept 6 m y e) in
              let there : statement_of v.run.kept 6 m ≡ Some (kinds.Sign shape.0) = ap (option_map (λ (z : SaidView). z.statement)) e ∙ ap Some shape.1 in
              let same : shape.0 ≡ b → ⊥ = λ is. k (all before (λ c at_c. let one : kinds.Sign shape.0 ≡ kinds.Sign c = same_Some (kinds.Sign shape.0) (kinds.Sign c) (sym there ∙ at_c) in
              let body : shape.0 ≡ c = cc in sym body ∙ is)) in
              first m shape.0 (record { within = omega (arith, le); signed = there; differs = same; before = before })

  -- ---- by stage

  wants_list : v.run.stage ≡ stages.Listed → (thin : Bool) (listed : List Listed) → ¬ IsListing v thin listed
  wants_list stage false listed listing =
      let own : Owned v.run (given_to listed v.seat.number) = owned v.run (given_to listed v.seat.number) (claimed_rows v sound run false listed listing (was stages.Listed stage)) in
      let sum : Sum = record { listed = listed; s = turned v.bend (server_string v.seat (course_of v.run) listed own.own); own = own.own } in
      let due : IsCommitDue v sum = record { stage = stage; listing = listing; summed = record { rows = own.rows_are; told = own.told; value = refl } } in
      never_due (commitment_of v sum) (λ free. stands _ _ (commits sum due free (leaf stages.Listed stage (omega arith)) refl refl))
      (λ other e ne. stands _ _ (commit_conflicts sum other due (e, ne) refl refl))
  wants_list stage true listed listing =
      let b : Body = record { version = v.seat.roster.version; r = v.run.r; prev = v.run.prev; thin = true; listed = listed; digests = []; out = [] } in
      let due : IsThinDue v b = record { stage = stage; listed = listed; listing = listing; is = refl } in
      never_signed b (λ un. stands _ _ (signs_thin b due un (leaf stages.Listed stage (omega arith)) refl refl)) (λ j other first. stands _ _ (thin_opposed b j other due first refl refl))

  wants_commits : v.run.stage ≡ stages.Committed → ¬ HasAll 4 v.run.kept (servers_in v)
  wants_commits stage all =
      let x = at stages.Committed stage in
      let sum = x.1.0 in
      let kept = commits_kept v.run.r v.run.kept (servers_in v) sound.round all in
      let due : IsRevealDue v sum = record { stage = stage; digests = kept.0; kept = kept.1; has = x.1.1.has } in
      never_due (kinds.Reveal v.run.r sum.s) (λ free. stands _ _ (reveals sum due free (leaf stages.Committed stage (omega arith)) refl refl))
      (λ other e ne. stands _ _ (reveal_conflicts sum other due (e, ne) refl refl))

  wants_reveals : v.run.stage ≡ stages.Revealed → ¬ HasAll 5 v.run.kept (servers_in v)
  wants_reveals stage all =
      let x = at stages.Revealed stage in
      let sum = x.1.0 in
      let digests = commits_kept v.run.r v.run.kept (servers_in v) sound.round x.1.1.commits in
      let strings = reveals_kept v.run.r v.run.kept (servers_in v) sound.round all in
      let b : Body = record { version = v.seat.roster.version; r = v.run.r; prev = v.run.prev; thin = false; listed = sum.listed; digests = digests.0; out = sum_bits v.run.bits strings.0 } in
      let due : IsBodyDue v sum b = record { stage = stage; digests = digests.0; strings = strings.0; has = x.1.1.commit.has; commits = digests.1; reveals = strings.1; is = refl } in
      never_signed b (λ un. stands _ _ (signs sum b due un (leaf stages.Revealed stage (omega arith)) refl refl)) (λ j other first. stands _ _ (body_opposed sum b j other due first refl refl))

  wants_signs : v.run.stage ≡ stages.Signed → (b : Body) → statement_of v.run.kept 6 v.seat.number ≡ Some (kinds.Sign b)
      → ¬ ((j : ℕ) → j < servers_in v → statement_of v.run.kept 6 j ≡ Some (kinds.Sign b))
  wants_signs stage b kept all =
      let roster = v.seat.roster in
      let has : HasSigned (standing_of v) = (was stages.Signed stage).1 in
      let both : kinds.Sign has.body ≡ kinds.Sign b = same_Some (kinds.Sign has.body) (kinds.Sign b) (sym has.kept ∙ kept) in
      let same : has.body ≡ b = cc in
      let signatures = signatures_kept roster v.run.kept b run.kept.said run.kept.under (servers_in v) all in
      let servers = sound.seated.roster.servers in
      let short : All (λ (s : List ℕ). length s < 2 ^ 16) signatures.0 = λ k d lt. (signatures.1.by k (get_or signatures.0 k d) (slice_get-get_or signatures.0 k d lt)).short in
      let fits : IsPayload (payloads.Certificate b signatures.0) =
      ((small_body b (statement_small v.run.kept 6 v.seat.number (kinds.Sign b) run.kept.said kept), statement_fits v.run.kept 6 v.seat.number (kinds.Sign b) run.kept.said kept), (omega (arith, signatures.1.each, servers.1), by_recursion (λ (s : List ℕ). length s < 2 ^ 16) signatures.0 short)) in
      let group : IsOfRoster roster b = subst (IsOfRoster roster) same has.group in
      let is_signed = are_signed roster v.run.kept b signatures.0 signatures.1 group fits in
      let c : CertificateView = record { digest = digest_of roster; clients = length roster.clients; keys = roster.servers; body = b; bytes = payload_bytes (payloads.Certificate b signatures.0) } in
      let of : IsCertificateOf v b c = record {
        signatures = signatures.0;
        certificate = record { signatures = signatures.0; signed = subst (λ n. IsSigned (digest_of roster) n (length roster.clients) roster.servers b signatures.0) (sym group.of_version) is_signed; spelled = refl };
        under = record { digest = refl; version = group.of_version; clients = refl; keys = refl };
        body = refl;
        bytes = refl;
        each = signatures.1.each;
        kept = λ j s e. (signatures.1.by j s e).kept_so;
      } in
      stands _ _ (certifies b c (record { stage = stage; signs = all }) of (subst (CanFollow v.chain) same has.follows) refl refl)

  wants : (stage : Stage) → v.run.stage ≡ stage → Wants stage v
  wants stages.Collecting e = tt
  wants stages.Listed e = wants_list e
  wants stages.Committed e = wants_commits e
  wants stages.Revealed e = wants_reveals e
  wants stages.Signed e = wants_signs e

pub gone_on : (v : ServerView) → IsHonest v → IsSound v → v.bent ≡ false → (v.run.is_running ≡ true → Stands v) → HasGoneOn v
gone_on v h sound straight stands = λ runs. wants v h sound straight runs (stands runs) v.run.stage refl
