-- What the audit of a world says.
use Rattle.std.specs.Prelude.{◌≡◌, ◌↔◌, IsTrue}
use Rattle.dn_wire.specs.declared.ids.ServerId.{ServerId}
use Rattle.dn_audit.specs.Auditor.{RunStrings, TellsOf, NoStringsCollide}
use Rattle.dn_audit.specs.Group.{IsHonestServer}
use Rattle.dn_state.specs.declared.reading.Audit.{Audit}
use Rattle.dn_state.specs.Parts.{PartsView}

-- Its three words: whether each signature that was put is theirs; whether no two of the strings that it was told have one digest; and whether
-- some server is honest.
pub record IsAudit (v : PartsView) (audit : Audit) : Type 0 where
  pub signed : audit.signed ≡ v.auditor.are_theirs
  pub digests : (x : RunStrings) → TellsOf v.auditor x → IsTrue audit.digests ↔ NoStringsCollide x
  pub honest : IsTrue audit.honest ↔ ((j : ServerId) × IsHonestServer v.group j)
