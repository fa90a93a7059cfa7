use Rattle.std.proofs.Common.{◌∙◌, Ok, ap, sym}
use Rattle.dn_script.proofs.ParsingLaws.{no_more}
use Rattle.dn_script.proofs.parsing.ended.Goals as goal

pub returns : goal.returns
returns c = rw (sym c.is_ended.ensures ∙ c.if-not-is_ended.false) (no_more c.args.read.lines.items ∙ ap Ok (sym c.of.ensures))
