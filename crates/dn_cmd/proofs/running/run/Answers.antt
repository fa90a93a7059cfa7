use Rattle.std.proofs.Common.{rules, subst, sym}
use Rattle.std.proofs.KnownBytes.{Keeps-refl}
use Rattle.dn_io.specs.Task.{Ends}
use Rattle.dn_io.proofs.EndLemmas.{not_read}
use Rattle.dn_script.proofs.ScriptLaws.{script_spelled}
use Rattle.dn_cmd.specs.Run.{script_task}
use Rattle.dn_cmd.proofs.RunLemmas.{ends_plain, ends_group, has_group, refused}
use Rattle.dn_cmd.proofs.running.run.Goals as goal

pub returns-in-Err : goal.returns-in-Err
returns-in-Err g c =
    subst (Ends script_task _ _) (sym c.from.ensures)
    (not_read c.read_whole.result (λ v. v.items) script_task _ _ c.in-Err.end c.in-Err.is (Keeps-refl _) c.read_whole.ensures.bytes c.read_whole.ensures.faults)

pub returns-in-Err-parse_script : goal.returns-in-Err-parse_script
returns-in-Err-parse_script g c =
    let read = c.in-Ok.ensures.bytes in
    subst (Ends script_task _ _) (sym c.refusal.ensures)
    (refused _ _ c.deref.result.now c.in-Ok.text.items c.in-Err-parse_script.fault c.deref.ensures.value
    (record { within = read.0; taken = read.1; whole = read.2 }) (Keeps-refl _) c.in-Err-parse_script.ensures)

pub plain_script-requires : goal.plain_script-requires
plain_script-requires g c = (script_spelled c.deref.result.now c.in-Ok-parse_script.script c.in-Ok-parse_script.ensures).legal

pub returns-in-Ok-None : goal.returns-in-Ok-None
returns-in-Ok-None g c =
    let read = c.in-Ok.ensures.bytes in
    ends_group _ _ c.run_group.result c.deref.result.now c.in-Ok.text.items c.in-Ok-parse_script.script c.deref.ensures.value
    (record { within = read.0; taken = read.1; whole = read.2 }) c.in-Ok-parse_script.ensures c.run_group.ensures

pub run_group-requires : goal.run_group-requires
run_group-requires g c = (
  search rules,
  has_group c.deref.result.now c.in-Ok-parse_script.script c.in-Ok-None.field-0 c.in-Ok-parse_script.ensures c.in-Ok-None.ensures.plain c.in-Ok-None.field-0-is,
)

pub returns-in-Ok-Some : goal.returns-in-Ok-Some
returns-in-Ok-Some g c =
    let read = c.in-Ok.ensures.bytes in
    ends_plain _ _ c.run_plain.result c.deref.result.now c.in-Ok.text.items c.in-Ok-parse_script.script c.in-Ok-Some.plain c.in-Ok-Some.field-0 c.deref.ensures.value
    (record { within = read.0; taken = read.1; whole = read.2 }) c.in-Ok-parse_script.ensures c.in-Ok-Some.ensures.plain c.in-Ok-Some.field-0-is c.run_plain.ensures
