use Rattle.std.proofs.Common.{List, [], ◌∷◌, ◌++◌, map, length}
use Rattle.std.specs.List.{flat_map}
use Rattle.dn_report.specs.declared.line.ReportLine.{ReportLine}
use Rattle.dn_report.specs.declared.line.ReportLine.TheVariants as lines
use Rattle.dn_run_report.specs.Report.{numbers_below, client_key_line, server_key_line, slot_key_line, seal_lines_of}
use Rattle.dn_run_report.proofs.LineLemmas.{all_behind}
use Rattle.dn_run_report.proofs.head.put_head.Goals as goal

pub returns : goal.returns
returns c =
    let roster = c.args.roster.now in
    let group = c.args.group.now in
    let start = c.args.out.now.items in
    let first : List ReportLine = lines.Report group.version ∷ lines.Group group.clients group.servers group.ots group.client_lms group.server_lms ∷ [] in
    let clients : List ReportLine = map (client_key_line roster) (numbers_below (length roster.clients)) in
    let servers : List ReportLine = map (server_key_line roster) (numbers_below (length roster.servers)) in
    let slots : List ReportLine = map (slot_key_line roster) (numbers_below (length roster.clients)) in
    let seals : List ReportLine = flat_map (seal_lines_of roster) (numbers_below (length roster.clients)) in
    let corrupt : List ReportLine = lines.Corrupt c.args.corrupt.now ∷ [] in
    all_behind start c.put_seals.new.out.items c.put_corrupt.new.out.items (first ++ clients ++ servers ++ slots ++ seals) corrupt
    (all_behind start c.put_slot_keys.new.out.items c.put_seals.new.out.items (first ++ clients ++ servers ++ slots) seals
    (all_behind start c.put_server_keys.new.out.items c.put_slot_keys.new.out.items (first ++ clients ++ servers) slots
    (all_behind start c.put_client_keys.new.out.items c.put_server_keys.new.out.items (first ++ clients) servers
    (all_behind start c.put_group.new.out.items c.put_client_keys.new.out.items first clients c.in_ok-put_group.ensures c.in_ok-put_client_keys.ensures)
    c.in_ok-put_server_keys.ensures) c.in_ok-put_slot_keys.ensures) c.in_ok-put_seals.ensures) c.in_ok-put_corrupt.ensures
