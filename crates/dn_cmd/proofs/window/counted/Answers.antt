use Rattle.std.proofs.Common.{◌∙◌, ap, length}
use Rattle.std.proofs.lemmas.List.FromFn.{length-map-range_with_len}
use Rattle.dn_cmd.proofs.window.counted.Goals as goal

pub all_marked-requires : goal.all_marked-requires
all_marked-requires c =
    ap length (c.deref.ensures.value ∙ c.in_ok-marks.ensures.marks) ∙ length-map-range_with_len _ 0 c.clients-clients.result
