-- Statements of a round fit into an envelope.
use Rattle.std.proofs.Common.{◌≡◌, ℕ, ◌^◌, ◌<◌, ◌≤◌, Bool, List, length}
use Rattle.dn_wire.specs.declared.ids.Round.{Round}
use Rattle.dn_record_types.specs.declared.statement.Statement.TheVariants as kinds
use Rattle.dn_seal.specs.Dealt.{server}
use Rattle.dn_seal.specs.Signer.{CanSign}
use Rattle.dn_seal.proofs.SizeLemmas.{can_sign}

pub can_reveal : (j : ℕ) (r : Round) (s : List Bool) → j < 2 ^ 32 → r.0 < 2 ^ 64 → length s ≤ 65536 → CanSign (server j) (kinds.Reveal r s)
can_reveal j r s jn rn h = can_sign (server j) (kinds.Reveal r s) jn (rn, h) tt

pub can_commit : (j : ℕ) (r : Round) (d : List ℕ) → j < 2 ^ 32 → r.0 < 2 ^ 64 → length d ≡ 32 → CanSign (server j) (kinds.Commit r d)
can_commit j r d jn rn h = can_sign (server j) (kinds.Commit r d) jn (rn, h) tt
