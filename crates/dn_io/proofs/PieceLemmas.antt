-- A text that is written piece by piece.
use Rattle.std.proofs.Common.{◌≡◌, ℕ, ◌+◌, List, ◌++◌, length, take, drop, sym, ap, subst, ◌∙◌, append_assoc, take-append-drop}
use Rattle.std.specs.declared.option.Option.{Option}
use Rattle.std.specs.Io.KnownBytes.{Appends}
use Rattle.std.proofs.KnownBytes.{Appends-nil, Appends-trans}
use Rattle.std.proofs.Math.Seq.{take-append-add, take-append_seam, take-length}
use Rattle.dn_io.specs.Sink.{AppendsFront}
use Rattle.dn_io.specs.Writing.{AppendsAllBut}

pub piece_stops : (start before after : Option (List ℕ)) (front piece : List ℕ) → Appends start before front → AppendsFront before after piece
    → AppendsFront start after (front ++ piece)
piece_stops start before after front piece put more =
    (length front + more.0, subst (Appends start after) (sym (take-append-add front piece more.0)) (Appends-trans start before after front (take more.0 piece) put more.1))

pub whole_is_front : (start after : Option (List ℕ)) (text : List ℕ) → Appends start after text → AppendsFront start after text
whole_is_front start after text put = (length text, subst (Appends start after) (sym (take-length text)) put)

pub front_of_more : (start after : Option (List ℕ)) (front rest : List ℕ) → AppendsFront start after front → AppendsFront start after (front ++ rest)
front_of_more start after front rest some =
    let told = take some.0 front in
    let same : take (length told) (front ++ rest) ≡ told =
    ap (λ l. take (length told) (l ++ rest)) (sym (take-append-drop some.0 front)) ∙ ap (take (length told)) (append_assoc told (drop some.0 front) rest)
    ∙ take-append_seam told (drop some.0 front ++ rest) in
    (length told, subst (Appends start after) (sym same) some.1)

pub nothing_is_front : (start : Option (List ℕ)) (text : List ℕ) → AppendsFront start start text
nothing_is_front start text = (0, Appends-nil start)

pub collected_goes_on : (start before after : Option (List ℕ)) (text piece waited waits : List ℕ) → AppendsAllBut start before text waited
    → AppendsAllBut before after (waited ++ piece) waits → AppendsAllBut start after (text ++ piece) waits
collected_goes_on start before after text piece waited waits first second = (
  first.0 ++ second.0,
  Appends-trans start before after first.0 second.0 first.1 second.1,
  ap (λ l. l ++ piece) first.2 ∙ append_assoc first.0 waited piece ∙ ap (λ l. first.0 ++ l) second.2 ∙ sym (append_assoc first.0 second.0 waits),
)

pub collected_stops : (start before after : Option (List ℕ)) (text piece waited : List ℕ) → AppendsAllBut start before text waited
    → AppendsFront before after (waited ++ piece) → AppendsFront start after (text ++ piece)
collected_stops start before after text piece waited first more =
    subst (AppendsFront start after) (sym (ap (λ l. l ++ piece) first.2 ∙ append_assoc first.0 waited piece))
    (piece_stops start before after first.0 (waited ++ piece) first.1 more)

pub collected_finishes : (start before after : Option (List ℕ)) (text waited : List ℕ) → AppendsAllBut start before text waited
    → Appends before after waited → Appends start after text
collected_finishes start before after text waited first put =
    subst (Appends start after) (sym first.2) (Appends-trans start before after first.0 waited first.1 put)
