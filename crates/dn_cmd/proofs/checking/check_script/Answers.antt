use Rattle.std.proofs.Common.{◌≡◌, length, OnErr, subst, sym, ap, ◌∙◌}
use Rattle.std.specs.Io.KnownBytes.{Appends}
use Rattle.dn_io.specs.Sink.{AppendsFront}
use Rattle.dn_io.specs.Task.{Ends}
use Rattle.dn_io.proofs.EndLemmas.{not_written}
use Rattle.dn_cmd.specs.Check.{check_task, count_text}
use Rattle.dn_cmd.proofs.CheckLemmas.{count_came}
use Rattle.dn_cmd.proofs.checking.check_script.Goals as goal

pub returns-in-Ok-write_whole : goal.returns-in-Ok-write_whole
returns-in-Ok-write_whole g c =
    let read = c.in-Ok.ensures.bytes in
    let given : c.in-Ok-count_text.due.items ≡ count_text (length c.in-Ok-parse_script.script) = c.in-Ok-count_text.ensures ∙ ap (λ l. count_text (length l)) c.lines.ensures in (
      c.in-Ok-count_text.due.items,
      count_came _ _ c.deref.result.now c.in-Ok.text.items c.in-Ok-count_text.due.items c.in-Ok-parse_script.script c.deref.ensures.value
          (record { within = read.0; taken = read.1; whole = read.2 }) c.in-Ok-parse_script.ensures given,
      subst (Appends _ _) c.deref-2.ensures.value c.in-Ok-write_whole.ensures.ok,
    )

pub returns : goal.returns
returns g c =
    let read = c.in-Ok.ensures.bytes in
    let given : c.in-Ok-count_text.due.items ≡ count_text (length c.in-Ok-parse_script.script) = c.in-Ok-count_text.ensures ∙ ap (λ l. count_text (length l)) c.lines.ensures in
    subst (Ends check_task _ _) (sym c.from-in-Err-write_whole.ensures)
    (not_written c.write_whole.result check_task _ _ c.in-Ok-count_text.due.items c.in-Err-write_whole.end c.in-Err-write_whole.is
    (count_came _ _ c.deref.result.now c.in-Ok.text.items c.in-Ok-count_text.due.items c.in-Ok-parse_script.script c.deref.ensures.value
    (record { within = read.0; taken = read.1; whole = read.2 }) c.in-Ok-parse_script.ensures given)
    (subst (λ due. OnErr c.write_whole.result (AppendsFront (g.K.Sink.held c.args.output.now) (g.K.Sink.held c.write_whole.new.sink) due)) c.deref-2.ensures.value c.write_whole.ensures.err)
    c.write_whole.ensures.faults)
