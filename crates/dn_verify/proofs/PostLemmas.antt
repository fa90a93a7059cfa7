-- Payloads that are posted.
use Rattle.std.proofs.Common.{◌≡◌, ◌<◌, ◌≤◌, ℕ, Bool, List, length, arith}
use Rattle.std.specs.Prelude.{◌↔◌, IsTrue, slice_get}
use Rattle.dn_wire.specs.declared.ids.Member.{Member}
use Rattle.dn_verify.specs.declared.content.Content.{Content}
use Rattle.dn_verify.specs.declared.scene.Scene.{Scene}
use Rattle.dn_verify.specs.Course.{CourseView}
use Rattle.dn_verify.specs.Judged.{ContentSays}
use Rattle.dn_verify.specs.Payloads.{Report, AreContents, IsOwn}
use Rattle.dn_verify.specs.Rules.{IsHonest, IsInjected, IsNextPayload, IsProperPost}
use Rattle.dn_verify.proofs.ContentLemmas.{carried_if_says, contents-length, own_respects, says_if_carried}

module _ (report : Report) (contents : List Content) (are : AreContents report contents) where
  -- a payload is a member's own where it opens to what is
  pub proper_if : (scene : Scene) (payload : ℕ) (by : Member) (b : Bool) → (IsInjected scene → ⊥) → IsHonest report.corrupt by → (IsTrue b ↔ ContentSays (IsOwn by) (slice_get contents payload))
      → IsTrue b ↔ IsProperPost report scene payload by
  proper_if scene payload by b injected honest says = (
    λ yes other as_well. carried_if_says report contents payload (IsOwn by) are (says.0 yes),
    λ proper. says.1 (says_if_carried report contents payload (IsOwn by) (own_respects by) are (proper injected honest)),
  )

  pub next_payload : (c : CourseView) (n : ℕ) → n ≡ c.posted → c.posted < length contents → IsNextPayload report c n
  next_payload c n at within = record { next = at; there = omega (arith, contents-length report.roster report.payloads contents are.opened) }

  pub not_there : (c : CourseView) (n : ℕ) → length contents ≤ c.posted → IsNextPayload report c n → ⊥
  not_there c n past next = omega (arith, next.next, next.there, contents-length report.roster report.payloads contents are.opened)
