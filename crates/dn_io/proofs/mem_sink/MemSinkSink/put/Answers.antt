use Rattle.std.proofs.Common.{◌≡◌, ◌∙◌, sym, ap, eqb, false}
use Rattle.std.specs.List.{list_any}
use Rattle.std.proofs.lemmas.Bool.{false≢true}
use Rattle.std.proofs.lemmas.Result.{IfErr-at_err}
use Rattle.dn_io.specs.declared.sink.SinkEnd.TheVariants.{Failed, NoMemory}
use Rattle.dn_io.specs.Memory.{Store, is_failing}
use Rattle.dn_io.proofs.mem_sink.MemSinkSink.put.Goals as goal

apart : Failed ≡ NoMemory → ⊥
apart e = cc

pub returns-clause-fails : goal.returns-clause-fails
returns-clause-fails c =
    let calm : is_failing c.args.self.now.fails c.args.self.now.calls ≡ false =
    ap (λ (s : Store). is_failing s.fails s.calls) (sym c.self.view_is)
    ∙ ap (λ l. list_any (λ k. eqb k c.self.inside.calls) l) (sym c.deref.ensures.value) ∙ sym c.if-contains.ensures.value in (
      λ failed. absurd (apart (IfErr-at_err (λ e. e ≡ NoMemory) failed c.append_front.ensures.memory)),
      λ fails. absurd (false≢true (sym calm ∙ fails)),
    )
