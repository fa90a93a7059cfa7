use Rattle.std.proofs.Common.{◌++◌, ◌≤◌, take}
use Rattle.std.specs.List.{flat_map}
use Rattle.dn_io.specs.Writing.{AppendsAllBut}
use Rattle.dn_run_report.specs.Report.{lines_text, shown_lines}
use Rattle.dn_run_report.proofs.played.Played.add_shown.Given as goal

abbrev pub invariant-loop-shown : goal.invariant-loop-shown
invariant-loop-shown g l =
    AppendsAllBut (g.K.Sink.held l.initial.sink) (g.K.Sink.held l.sink)
    (l.initial.collector ++ lines_text (flat_map (shown_lines l.self.history) (take l.shown-index l.shown-items))) l.collector
    × (g.K.Sink.faults l.initial.sink ≤ g.K.Sink.faults l.sink)
