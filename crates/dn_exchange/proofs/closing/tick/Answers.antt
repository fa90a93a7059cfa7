use Rattle.std.proofs.Common.{◌∙◌, ap, sym}
use Rattle.std.proofs.lemmas.Result.{IfOk-weaker}
use Rattle.dn_window.specs.Window.{WindowState}
use Rattle.dn_server.specs.Parts.{live}
use Rattle.dn_exchange.proofs.CloseLemmas.{due_open, ticked_closed, ticked_submitted, ticks_out}
use Rattle.dn_exchange.proofs.closing.tick.Goals as goal

pub close_out-requires-after_bounds : goal.close_out-requires-after_bounds
close_out-requires-after_bounds g c = λ κs within.
    let w = c.args.parts.now.run.window in
    let due = sym c.tick.ensures.closes ∙ c.if-not-tick.false in
    c.requires (due_open w due) c.tick.new.self (ap (λ (x : WindowState). x.closed) c.tick.ensures.after ∙ ticked_closed w due) (ap (λ (x : WindowState). x.submitted) c.tick.ensures.after ∙ ticked_submitted w)

pub returns : goal.returns
returns g c =
    let due = sym c.tick.ensures.closes ∙ c.if-not-tick.false in
    IfOk-weaker c.close_out.result _ _ (λ a x. ticks_out c.args.parts.now c.tick.new.self a (live c.close_out.new.parts) x.0 due c.tick.ensures.after x.1 x.2) c.close_out.ensures
