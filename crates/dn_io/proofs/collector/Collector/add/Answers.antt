-- What waited is put first, and then the piece.
use Rattle.std.proofs.Common.{◌≡◌, ℕ, List, [], ◌++◌, Option, Result, Ok, Err, OnOk, OnErr, IfOk, sym, ap, ◌∙◌}
use Rattle.std.specs.Io.KnownBytes.{Appends}
use Rattle.std.proofs.KnownBytes.{Appends-trans}
use Rattle.std.proofs.lemmas.List.{append-nil}
use Rattle.dn_io.specs.Sink.{AppendsFront}
use Rattle.dn_io.specs.Writing.{AppendsAllBut}
use Rattle.dn_io.proofs.PieceLemmas.{piece_stops, front_of_more}
use Rattle.dn_io.proofs.collector.Collector.add.Goals as goal

at_err : {T E : Type 0} (r : Result T E) (P : Type 0) → P → OnErr r P
at_err (Ok x) P p = tt
at_err (Err e) P p = p

both_put : {T E : Type 0} (r : Result T E) (a b c : Option (List ℕ)) (waited piece rest : List ℕ) → Appends a b waited → rest ≡ []
    → IfOk r (λ _. Appends b c piece) → OnOk r (AppendsAllBut a c (waited ++ piece) rest)
both_put (Ok x) a b c waited piece rest put none more =
    (waited ++ piece, Appends-trans a b c waited piece put more, sym (ap (λ l. (waited ++ piece) ++ l) none ∙ append-nil (waited ++ piece)))
both_put (Err e) a b c waited piece rest put none more = tt

front_put : {T E : Type 0} (r : Result T E) (a b c : Option (List ℕ)) (waited piece : List ℕ) → Appends a b waited
    → OnErr r (AppendsFront b c piece) → OnErr r (AppendsFront a c (waited ++ piece))
front_put (Ok x) a b c waited piece put more = tt
front_put (Err e) a b c waited piece put more = piece_stops a b c waited piece put more

pub returns-in_err-finish-clause-err : goal.returns-in_err-finish-clause-err
returns-in_err-finish-clause-err g c =
    at_err c.from_residual.result _ (front_of_more _ _ c.args.self.now c.args.piece.now c.in_err-finish.ensures.err)

pub returns-then-piece-gt-MAX_WAITING-clause-ok : goal.returns-then-piece-gt-MAX_WAITING-clause-ok
returns-then-piece-gt-MAX_WAITING-clause-ok g c =
    both_put c.write_whole.result _ _ _ c.args.self.now c.args.piece.now _ c.in_ok-finish.ensures.ok c.finish.ensures.none c.write_whole.ensures.ok

pub returns-then-piece-gt-MAX_WAITING-clause-err : goal.returns-then-piece-gt-MAX_WAITING-clause-err
returns-then-piece-gt-MAX_WAITING-clause-err g c =
    front_put c.write_whole.result _ _ _ c.args.self.now c.args.piece.now c.in_ok-finish.ensures.ok c.write_whole.ensures.err
