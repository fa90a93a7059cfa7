use Rattle.std.proofs.Common.{◌≡◌, ℕ, ◌<◌, false, length, slice_index_or, take}
use Rattle.dn_wire.specs.declared.ids.Member.TheVariants.{Client, Server}
use Rattle.dn_audit.specs.Group.{is_listed}
use Rattle.dn_audit.proofs.group.Group.make.Given as goal

abbrev pub invariant-loop-member : goal.invariant-loop-member
invariant-loop-member l =
    (length l.corrupt_clients.items ≡ l.clients) × (length l.corrupt_servers.items ≡ l.servers)
    × ((i : ℕ) → i < l.clients → slice_index_or l.corrupt_clients.items i false ≡ is_listed (take l.member-index l.corrupt) (Client record { 0 = i }))
    × ((j : ℕ) → j < l.servers → slice_index_or l.corrupt_servers.items j false ≡ is_listed (take l.member-index l.corrupt) (Server record { 0 = j }))
