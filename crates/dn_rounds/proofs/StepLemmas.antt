-- Steps of a server in its round.
use Rattle.std.proofs.Common.{◌≡◌, ℕ, zero, suc, ◌+◌, ◌<◌, Bool, false, List, [], ◌∷◌, ◌++◌, length, get_or, Some, None, refl, sym, ap, subst, ◌∙◌, arith}
use Rattle.std.specs.Prelude.{Option, option_map, IsSome}
use Rattle.std.proofs.lemmas.Option.{slice_get-get_or}
use Rattle.dn_record_types.specs.declared.body.Body.{Body}
use Rattle.dn_record_types.specs.declared.body.Listed.{Listed}
use Rattle.dn_record_types.specs.declared.statement.Statement.{Statement}
use Rattle.dn_record_types.specs.declared.statement.Statement.TheVariants as kinds
use Rattle.dn_seal.specs.Said.{SaidView}
use Rattle.dn_server.specs.declared.act.Act.{Act}
use Rattle.dn_rounds.specs.declared.going.Due.{Due}
use Rattle.dn_rounds.specs.declared.going.Due.TheVariants as dues
use Rattle.dn_server.specs.declared.parts.Parts.{Parts}
use Rattle.dn_server.specs.declared.run.Stage.TheVariants as stages
use Rattle.dn_server.specs.declared.run.Sum.{Sum}
use Rattle.dn_server.specs.Server.{ServerView, servers_in, statement_of, kept_of, AreKept}
use Rattle.dn_server.specs.Keeping.{IsMissing, HasAll}
use Rattle.dn_wire.specs.declared.ids.Round.{Round}
use Rattle.dn_server.specs.Keeping.{AreOfRound}
use Rattle.dn_server.proofs.Shapes.{commit_shape, reveal_shape}
use Rattle.dn_server.proofs.KeptLemmas.{kept_none, kept_more, kept_kind, kept_round}
use Rattle.dn_rounds.specs.Going.{IsRevealDue, IsFree, HasLeaf, Stands, says}
use Rattle.dn_rounds.specs.Going.Step.{commits, reveals, signs, signs_thin, certifies, commit_conflicts, reveal_conflicts, body_opposed, thin_opposed}
use Rattle.dn_server.specs.Parts.{live}
use Rattle.dn_rounds.specs.Sound.{Stepped, Became, has_moved}

pub sum_is : (a b : Sum) → Some a ≡ Some b → a ≡ b
sum_is a b e = cc

-- where one is missing they aren't all kept
pub missing_none : {A : Type 0} (make : A → Statement) (kind : ℕ) (kept : List SaidView) (n : ℕ) (xs : List A) → AreKept make kind kept n xs → IsMissing kind kept n → A → ⊥
missing_none make kind kept n xs are missing d =
    let within : missing.0 < length xs = omega (arith, are.each, missing.1) in
    let said = are.say missing.0 (get_or xs missing.0 d) (slice_get-get_or xs missing.0 d within) in
    let none = ap (option_map (λ (s : SaidView). s.statement)) missing.2 in
    cc

module _ (v : ServerView) where
  -- with a commitment missing the server waits for it
  pub waits_for_commits : v.run.stage ≡ stages.Committed → IsMissing 4 v.run.kept (servers_in v) → Stands v
  waits_for_commits at missing did after (commits sum d f l e g) = let h = d.stage in cc
  waits_for_commits at missing did after (reveals sum d f l e g) = missing_none (kinds.Commit v.run.r) 4 v.run.kept (servers_in v) d.digests d.kept missing []
  waits_for_commits at missing did after (signs sum b d f l e g) = let h = d.stage in cc
  waits_for_commits at missing did after (signs_thin b d f l e g) = let h = d.stage in cc
  waits_for_commits at missing did after (certifies b c d f l e g) = let h = d.stage in cc
  waits_for_commits at missing did after (commit_conflicts sum other d f e g) = let h = d.stage in cc
  waits_for_commits at missing did after (reveal_conflicts sum other d f e g) = missing_none (kinds.Commit v.run.r) 4 v.run.kept (servers_in v) d.digests d.kept missing []
  waits_for_commits at missing did after (body_opposed sum b j other d f e g) = let h = d.stage in cc
  waits_for_commits at missing did after (thin_opposed b j other d f e g) = let h = d.stage in cc

  -- with no leaf for its ciphertext the server goes no further
  pub stuck_at_reveal : (sum : Sum) → IsRevealDue v sum → IsFree v (kinds.Reveal v.run.r sum.s) → (¬ HasLeaf v) → Stands v
  stuck_at_reveal s at free leaf did after (commits sum d f l e g) = leaf l
  stuck_at_reveal s at free leaf did after (reveals sum d f l e g) = leaf l
  stuck_at_reveal s at free leaf did after (signs sum b d f l e g) = leaf l
  stuck_at_reveal s at free leaf did after (signs_thin b d f l e g) = leaf l
  stuck_at_reveal s at free leaf did after (certifies b c d f l e g) = let h = d.stage in let k = at.stage in cc
  stuck_at_reveal s at free leaf did after (commit_conflicts sum other d f e g) = let h = d.stage in let k = at.stage in cc
  stuck_at_reveal s at free leaf did after (reveal_conflicts sum other d f e g) =
      let same = sum_is s sum (sym at.has ∙ d.has) in
      f.1 (free other f.0 ∙ ap (λ (x : Sum). kinds.Reveal v.run.r x.s) same)
  stuck_at_reveal s at free leaf did after (body_opposed sum b j other d f e g) = let h = d.stage in let k = at.stage in cc
  stuck_at_reveal s at free leaf did after (thin_opposed b j other d f e g) = let h = d.stage in let k = at.stage in cc

-- what became of the ciphertext that is due is a step, or none is possible
pub reveal_stepped : (old new : Parts) (before after : List Act) (sum : Sum) → IsRevealDue (live old) sum → (due : Due)
    → Became (kinds.Reveal old.run.r sum.s) stages.Revealed old new before after due → Stepped old new before after (has_moved due)
reveal_stepped old new before after sum at dues.Opposed b = (_, b.3, reveal_conflicts sum b.0 at b.1 refl (ap live b.2))
reveal_stepped old new before after sum at dues.Said b =
    (_, b.3, reveals sum at b.0 b.1 refl (ap live b.2 ∙ ap (λ x. says (live old) (kinds.Reveal old.run.r sum.s) stages.Revealed x) at.has))
reveal_stepped old new before after sum at dues.Stuck b = (b.2, b.3, stuck_at_reveal (live old) sum at b.0 b.1)

-- where each server's statement is kept, they make a list
pub all_kept : {A : Type 0} (make : A → Statement) (kind : ℕ) (kept : List SaidView) (n : ℕ)
    → ((j : ℕ) (said : SaidView) → kept_of kept kind j ≡ Some said → (x : A) × (said.statement ≡ make x)) → HasAll kind kept n
    → (xs : List A) × AreKept make kind kept n xs
all_kept make kind kept zero each has = ([], kept_none make kind kept)
all_kept {A} make kind kept (suc n) each has =
    let rest = all_kept make kind kept n each (λ j lt. has j (omega arith)) in
    let last = one (kept_of kept kind n) refl (has n (omega arith)) in
    let up : n + 1 ≡ suc n = omega arith in
    (rest.0 ++ last.0 ∷ [], subst (λ k. AreKept make kind kept k (rest.0 ++ last.0 ∷ [])) up (kept_more make kind kept n rest.0 last.0 rest.1 last.1))
  where
    one : (o : Option SaidView) → kept_of kept kind n ≡ o → IsSome o → (x : A) × (statement_of kept kind n ≡ Some (make x))
    one None e h = let never = h in cc
    one (Some said) e h = let x = each n said e in (x.0, ap (option_map (λ (s : SaidView). s.statement)) e ∙ ap Some x.1)

-- the commitments of all servers
pub commits_kept : (r : Round) (kept : List SaidView) (n : ℕ) → AreOfRound r kept → HasAll 4 kept n → (digests : List (List ℕ)) × AreKept (kinds.Commit r) 4 kept n digests
commits_kept r kept n round has =
    all_kept (kinds.Commit r) 4 kept n (λ j said e. commit_shape said.statement r (kept_kind kept 4 j said e) (kept_round r kept 4 j said round e)) has

-- the ciphertexts of all servers
pub reveals_kept : (r : Round) (kept : List SaidView) (n : ℕ) → AreOfRound r kept → HasAll 5 kept n → (strings : List (List Bool)) × AreKept (kinds.Reveal r) 5 kept n strings
reveals_kept r kept n round has =
    all_kept (kinds.Reveal r) 5 kept n (λ j said e. reveal_shape said.statement r (kept_kind kept 5 j said e) (kept_round r kept 5 j said round e)) has

abbrev pub body_with : ℕ → Round → Round → List Listed → List (List ℕ) → List Bool → Body
body_with version r prev listed digests out = record { version = version; r = r; prev = prev; thin = false; listed = listed; digests = digests; out = out }

pub body_same : (r prev : Round) (v w : ℕ) (l m : List Listed) (d e : List (List ℕ)) (o u : List Bool) → v ≡ w → l ≡ m → d ≡ e → o ≡ u
    → body_with v r prev l d o ≡ body_with w r prev m e u
body_same r prev v w l m d e o u a b c f = λ i. body_with (a i) r prev (b i) (c i) (f i)
