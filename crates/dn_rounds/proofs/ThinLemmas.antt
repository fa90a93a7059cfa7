-- The step that signs a body without data.
use Rattle.std.proofs.Common.{◌≡◌, ℕ, ◌+◌, ◌-◌, ◌<◌, ◌≤◌, true, List, [], ◌∷◌, length, map, refl, sym, ap, ◌∙◌, arith}
use Rattle.std.specs.Prelude.{All}
use Rattle.std.proofs.lemmas.List.{length-map}
use Rattle.std.proofs.lemmas.List.Elements.{All-head, All-tail, All-map}
use Rattle.dn_wire.specs.declared.ids.ClientId.{ClientId}
use Rattle.dn_records.specs.Lists.{Ascend, AscendFrom}
use Rattle.dn_record_types.specs.declared.body.Body.{Body}
use Rattle.dn_record_types.specs.declared.body.Listed.{Listed}
use Rattle.dn_server.specs.declared.act.Act.{Act}
use Rattle.dn_rounds.specs.declared.going.Due.{Due}
use Rattle.dn_rounds.specs.declared.going.Due.TheVariants as dues
use Rattle.dn_server.specs.declared.parts.Parts.{Parts}
use Rattle.dn_server.specs.Server.{ServerView}
use Rattle.dn_rounds.specs.Going.{IsThinDue, IsUnopposed, HasLeaf, Stands, thin_past}
use Rattle.dn_rounds.specs.Going.Step.{commits, reveals, signs, signs_thin, certifies, commit_conflicts, reveal_conflicts, body_opposed, thin_opposed}
use Rattle.dn_server.specs.Parts.{live}
use Rattle.dn_rounds.specs.Sound.{Stepped, BecameSigned, has_moved, with_past_if}
use Rattle.dn_rounds.proofs.CommitLemmas.{InventoriesFit, listing_one, never_both}

-- one body without data is due
pub thin_one : (v : ServerView) (b c : Body) → InventoriesFit v → IsThinDue v b → IsThinDue v c → b ≡ c
thin_one v b c fit d e =
    let lists = listing_one v true true d.listed e.listed fit d.listing e.listing in
    d.is ∙ (λ i. record { version = v.seat.roster.version; r = v.run.r; prev = v.run.prev; thin = true; listed = lists i; digests = []; out = [] }) ∙ sym e.is

module _ (v : ServerView) where
  pub stuck_at_thin : (c : Body) → InventoriesFit v → IsThinDue v c → IsUnopposed v c → (¬ HasLeaf v) → Stands v
  stuck_at_thin c fit at free leaf did after (commits sum d f l e g) = leaf l
  stuck_at_thin c fit at free leaf did after (reveals sum d f l e g) = leaf l
  stuck_at_thin c fit at free leaf did after (signs sum b d f l e g) = leaf l
  stuck_at_thin c fit at free leaf did after (signs_thin b d f l e g) = leaf l
  stuck_at_thin c fit at free leaf did after (certifies b x d f l e g) = let h = d.stage in let k = at.stage in cc
  stuck_at_thin c fit at free leaf did after (commit_conflicts sum other d f e g) = never_both v sum.listed at.listed fit d.listing at.listing
  stuck_at_thin c fit at free leaf did after (reveal_conflicts sum other d f e g) = let h = d.stage in let k = at.stage in cc
  stuck_at_thin c fit at free leaf did after (body_opposed sum b j other d f e g) = let h = d.stage in let k = at.stage in cc
  stuck_at_thin c fit at free leaf did after (thin_opposed b j other d f e g) = f.differs (free j other f.within f.signed ∙ thin_one v c b fit at d)

-- what became of the body without data that is due is a step, or none is possible
pub thin_stepped : (old mid new : Parts) (before after : List Act) (b : Body) → InventoriesFit (live old) → IsThinDue (live old) b → (due : Due)
    → BecameSigned b old mid before after due → new ≡ with_past_if due mid (thin_past b) → Stepped old new before after (has_moved due)
thin_stepped old mid new before after b fit at dues.Opposed w e = (_, w.4, thin_opposed b w.0 w.1 at w.2 refl (ap live (e ∙ w.3)))
thin_stepped old mid new before after b fit at dues.Said w e =
    (_, w.3, signs_thin b at w.0 w.1 refl (ap live (e ∙ ap (λ m. with_past_if dues.Said m (thin_past b)) w.2)))
thin_stepped old mid new before after b fit at dues.Stuck w e = (e ∙ w.2, w.3, stuck_at_thin (live old) b fit at w.0 w.1)

-- clients that ascend below a number are no more than it
pub ascend_few : (floor n : ℕ) (ids : List ClientId) → AscendFrom floor ids → All (λ i. i.0 < n) ids → length ids ≤ n - floor
ascend_few floor n [] a h = omega arith
ascend_few floor n (i ∷ ids) a h =
    let rest = ascend_few (i.0 + 1) n ids a.1 (All-tail (λ (x : ClientId). x.0 < n) i ids h) in
    let first = All-head (λ (x : ClientId). x.0 < n) i ids h in
    let up = a.0 in
    omega arith

pub listed_few : (listed : List Listed) (n : ℕ) → Ascend (map (λ (l : Listed). l.client) listed) → All (λ (l : Listed). l.client.0 < n) listed → length listed ≤ n
listed_few listed n a h =
    let few = ascend_few 0 n (map (λ (l : Listed). l.client) listed) a (All-map (λ (i : ClientId). i.0 < n) (λ (l : Listed). l.client) listed h) in
    omega (arith, length-map listed (λ (l : Listed). l.client))
