use Rattle.std.proofs.Common.{rules, ◌≡◌, ◌++◌, ◌∙◌, ap, length}
use Rattle.std.specs.Int.{w32, to_be_bytes}
use Rattle.sha2.specs.Sha256.{sha256}
use Rattle.dn_hash.specs.Inputs.{group_tag_of}
use Rattle.dn_hash.specs.Digests.{group_digest_of}
use Rattle.dn_roster.specs.Roster.{joined, roster_bytes_of}
use Rattle.dn_roster.proofs.RosterLemmas.{grouped}
use Rattle.dn_roster.proofs.roster.Roster.make.Goals as goal

-- the hasher holds the tag and the roster's bytes
pub invariant_of-result : goal.invariant_of-result
unfolding group_digest_of roster_bytes_of
invariant_of-result c =
    let clients : c.len.result ≡ length c.args.clients.items = search rules in
    let servers : c.len-2.result ≡ length c.args.servers.items = search rules in
    let n : c.to_be_bytes.result ≡ to_be_bytes w32 (length c.args.clients.items) = c.to_be_bytes.ensures ∙ ap (to_be_bytes w32) clients in
    let m : c.to_be_bytes-2.result ≡ to_be_bytes w32 (length c.args.servers.items) = c.to_be_bytes-2.ensures ∙ ap (to_be_bytes w32) servers in
    let k : c.as_flattened.result.now ≡ joined c.args.clients.items = c.as_flattened.ensures.value ∙ ap joined c.deref.ensures.value in
    let l : c.as_flattened-2.result.now ≡ joined c.args.servers.items = c.as_flattened-2.ensures.value ∙ ap joined c.deref-2.ensures.value in
    let p : c.as_flattened-3.result.now ≡ joined c.args.slots.items = c.as_flattened-3.ensures.value ∙ ap joined c.deref-3.ensures.value in
    let x : c.as_flattened-4.result.now ≡ joined c.args.seals.items = c.as_flattened-4.ensures.value ∙ ap joined c.deref-4.ensures.value in
    let t : c.group_tag.result.now ≡ group_tag_of c.args.version = c.group_tag.ensures in
    let held = c.finalize-digest.ensures _ (c.update-10.ensures _ (c.update-9.ensures _ (c.update-8.ensures _ (c.update-7.ensures _ (c.update-6.ensures _ (c.update-5.ensures _ (c.update-4.ensures _ (c.update-3.ensures _ (c.update-2.ensures _ (c.update.ensures _ c.new-hasher.ensures)))))))))) in (
      c.requires,
      held
          ∙ (λ i. sha256 (t i ++ n i ++ m i ++ c.to_be_bytes-3.ensures i ++ c.to_be_bytes-4.ensures i ++ c.to_be_bytes-5.ensures i ++ k i ++ l i ++ p i ++ x i))
          ∙ ap sha256 (grouped (group_tag_of c.args.version) (to_be_bytes w32 (length c.args.clients.items)) (to_be_bytes w32 (length c.args.servers.items)) (to_be_bytes w32 c.args.ots) (to_be_bytes w32 c.args.client_lms) (to_be_bytes w32 c.args.server_lms) (joined c.args.clients.items) (joined c.args.servers.items) (joined c.args.slots.items) (joined c.args.seals.items)),
    )
