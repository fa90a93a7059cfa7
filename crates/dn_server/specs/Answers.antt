-- Answers of a server.
use Rattle.std.specs.Prelude.{List}
use Rattle.dn_server.specs.declared.act.Act.{Act}
use Rattle.dn_server.specs.declared.answer.Answer.{Answer}
use Rattle.dn_server.specs.declared.answer.Answer.TheVariants as answers
use Rattle.dn_server.specs.declared.answer.Reason.{Reason}

abbrev pub ignored : Reason → Answer
ignored reason = answers.Ignored reason

abbrev pub does : List Act → Answer
does list = answers.Acts list
