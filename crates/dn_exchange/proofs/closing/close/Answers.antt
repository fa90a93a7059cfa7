use Rattle.std.proofs.Common.{◌∙◌, ap, sym}
use Rattle.std.proofs.lemmas.Result.{IfOk-weaker}
use Rattle.dn_window.specs.Window.{WindowState}
use Rattle.dn_server.specs.Parts.{live}
use Rattle.dn_exchange.proofs.CloseLemmas.{isnt_so, shuts_out}
use Rattle.dn_exchange.proofs.closing.close.Goals as goal

pub close_out-requires-after_bounds : goal.close_out-requires-after_bounds
close_out-requires-after_bounds g c = λ κs within.
    let was = isnt_so c.args.parts.now.run.window.closed (sym c.close.ensures.closes ∙ c.if-not-close.false) in
    c.requires was c.close.new.self (ap (λ (x : WindowState). x.closed) c.close.ensures.after) (ap (λ (x : WindowState). x.submitted) c.close.ensures.after)

pub returns : goal.returns
returns g c =
    let was = isnt_so c.args.parts.now.run.window.closed (sym c.close.ensures.closes ∙ c.if-not-close.false) in
    IfOk-weaker c.close_out.result _ _ (λ a x. shuts_out c.args.parts.now c.close.new.self a (live c.close_out.new.parts) x.0 was c.close.ensures.after x.1 x.2) c.close_out.ensures
