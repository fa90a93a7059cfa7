-- The step that signs a body.
use Rattle.std.proofs.Common.{◌≡◌, ℕ, suc, Bool, List, [], ◌∷◌, length, Some, refl, sym, ap, ◌∙◌, arith}
use Rattle.std.specs.Prelude.{slice_get}
use Rattle.dn_wire.specs.declared.ids.Round.{Round}
use Rattle.dn_bits.specs.Bits.{sum_bits}
use Rattle.dn_record_types.specs.declared.body.Body.{Body}
use Rattle.dn_record_types.specs.declared.statement.Statement.{Statement}
use Rattle.dn_record_types.specs.declared.statement.Statement.TheVariants as kinds
use Rattle.dn_seal.specs.Said.{SaidView}
use Rattle.dn_server.specs.declared.act.Act.{Act}
use Rattle.dn_rounds.specs.declared.going.Due.{Due}
use Rattle.dn_rounds.specs.declared.going.Due.TheVariants as dues
use Rattle.dn_server.specs.declared.parts.Parts.{Parts}
use Rattle.dn_server.specs.declared.run.Stage.TheVariants as stages
use Rattle.dn_server.specs.declared.run.Sum.{Sum}
use Rattle.dn_server.specs.Server.{ServerView, servers_in, AreKept}
use Rattle.dn_server.specs.Keeping.{IsMissing}
use Rattle.dn_rounds.specs.Going.{IsBodyDue, IsUnopposed, HasLeaf, Stands, says, with_past, past_with}
use Rattle.dn_rounds.specs.Going.Step.{commits, reveals, signs, signs_thin, certifies, commit_conflicts, reveal_conflicts, body_opposed, thin_opposed}
use Rattle.dn_server.specs.Parts.{live}
use Rattle.dn_rounds.specs.Sound.{Stepped, BecameSigned, has_moved, with_past_if}
use Rattle.dn_rounds.proofs.StepLemmas.{sum_is, missing_none, body_same}

-- lists that have the same at each place
pub lists_same : {A : Type 0} (xs ys : List A) → length xs ≡ length ys
    → ((j : ℕ) (x y : A) → slice_get xs j ≡ Some x → slice_get ys j ≡ Some y → x ≡ y) → xs ≡ ys
lists_same [] [] l f = refl
lists_same [] (y ∷ ys) l f = absurd (omega arith)
lists_same (x ∷ xs) [] l f = absurd (omega arith)
lists_same (x ∷ xs) (y ∷ ys) l f =
    let first = f 0 x y refl refl in
    let rest = lists_same xs ys (omega arith) (λ j. f (suc j)) in
    λ i. first i ∷ rest i

-- what is kept of servers is one list
pub kept_one : {A : Type 0} (make : A → Statement) (kind : ℕ) (kept : List SaidView) (n : ℕ) (xs ys : List A)
    → ((x y : A) → Some (make x) ≡ Some (make y) → x ≡ y) → AreKept make kind kept n xs → AreKept make kind kept n ys → xs ≡ ys
kept_one make kind kept n xs ys one a b =
    lists_same xs ys (a.each ∙ sym b.each) (λ j x y here there. one x y (sym (a.say j x here) ∙ b.say j y there))

commit_one : (r : Round) (x y : List ℕ) → Some (kinds.Commit r x) ≡ Some (kinds.Commit r y) → x ≡ y
commit_one r x y e = cc

reveal_one : (r : Round) (x y : List Bool) → Some (kinds.Reveal r x) ≡ Some (kinds.Reveal r y) → x ≡ y
reveal_one r x y e = cc

-- one body is due
pub body_one : (v : ServerView) (s t : Sum) (b c : Body) → IsBodyDue v s b → IsBodyDue v t c → b ≡ c
body_one v s t b c d e =
    let sums = sum_is s t (sym d.has ∙ e.has) in
    let digests = kept_one (kinds.Commit v.run.r) 4 v.run.kept (servers_in v) d.digests e.digests (commit_one v.run.r) d.commits e.commits in
    let strings = kept_one (kinds.Reveal v.run.r) 5 v.run.kept (servers_in v) d.strings e.strings (reveal_one v.run.r) d.reveals e.reveals in
    d.is ∙ body_same v.run.r v.run.prev _ _ s.listed t.listed d.digests e.digests (sum_bits v.run.bits d.strings) (sum_bits v.run.bits e.strings) refl
    (ap (λ (x : Sum). x.listed) sums) digests (ap (sum_bits v.run.bits) strings) ∙ sym e.is

module _ (v : ServerView) where
  -- with a ciphertext missing the server waits for it
  pub waits_for_reveals : v.run.stage ≡ stages.Revealed → IsMissing 5 v.run.kept (servers_in v) → Stands v
  waits_for_reveals at missing did after (commits sum d f l e g) = let h = d.stage in cc
  waits_for_reveals at missing did after (reveals sum d f l e g) = let h = d.stage in cc
  waits_for_reveals at missing did after (signs sum b d f l e g) = missing_none (kinds.Reveal v.run.r) 5 v.run.kept (servers_in v) d.strings d.reveals missing []
  waits_for_reveals at missing did after (signs_thin b d f l e g) = let h = d.stage in cc
  waits_for_reveals at missing did after (certifies b c d f l e g) = let h = d.stage in cc
  waits_for_reveals at missing did after (commit_conflicts sum other d f e g) = let h = d.stage in cc
  waits_for_reveals at missing did after (reveal_conflicts sum other d f e g) = let h = d.stage in cc
  waits_for_reveals at missing did after (body_opposed sum b j other d f e g) = missing_none (kinds.Reveal v.run.r) 5 v.run.kept (servers_in v) d.strings d.reveals missing []
  waits_for_reveals at missing did after (thin_opposed b j other d f e g) = let h = d.stage in cc

  -- with no leaf for its body the server goes no further
  pub stuck_at_sign : (s : Sum) (c : Body) → IsBodyDue v s c → IsUnopposed v c → (¬ HasLeaf v) → Stands v
  stuck_at_sign s c at free leaf did after (commits sum d f l e g) = leaf l
  stuck_at_sign s c at free leaf did after (reveals sum d f l e g) = leaf l
  stuck_at_sign s c at free leaf did after (signs sum b d f l e g) = leaf l
  stuck_at_sign s c at free leaf did after (signs_thin b d f l e g) = leaf l
  stuck_at_sign s c at free leaf did after (certifies b x d f l e g) = let h = d.stage in let k = at.stage in cc
  stuck_at_sign s c at free leaf did after (commit_conflicts sum other d f e g) = let h = d.stage in let k = at.stage in cc
  stuck_at_sign s c at free leaf did after (reveal_conflicts sum other d f e g) = let h = d.stage in let k = at.stage in cc
  stuck_at_sign s c at free leaf did after (body_opposed sum b j other d f e g) = f.differs (free j other f.within f.signed ∙ body_one v s sum c b at d)
  stuck_at_sign s c at free leaf did after (thin_opposed b j other d f e g) = let h = d.stage in let k = at.stage in cc

-- what became of the body that is due is a step, or none is possible
pub sign_stepped : (old mid new : Parts) (before after : List Act) (sum : Sum) (b : Body) → IsBodyDue (live old) sum b → (due : Due)
    → BecameSigned b old mid before after due → new ≡ with_past_if due mid (record { body = b; s = sum.s; own = sum.own })
    → Stepped old new before after (has_moved due)
sign_stepped old mid new before after sum b at dues.Opposed w e =
    (_, w.4, body_opposed sum b w.0 w.1 at w.2 refl (ap live (e ∙ w.3)))
sign_stepped old mid new before after sum b at dues.Said w e = (
  _,
  w.3,
  signs sum b at w.0 w.1 refl
      (ap live (e ∙ ap (λ m. with_past_if dues.Said m (record { body = b; s = sum.s; own = sum.own })) w.2)
      ∙ ap (λ x. with_past (says (live old) (kinds.Sign b) stages.Signed x) (past_with sum b)) at.has),
)
sign_stepped old mid new before after sum b at dues.Stuck w e = (e ∙ w.2, w.3, stuck_at_sign (live old) sum b at w.0 w.1)
