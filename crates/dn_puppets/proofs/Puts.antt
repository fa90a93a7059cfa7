-- Payloads that are put to one member after the other.
use Rattle.std.proofs.Common.{◌≡◌, ℕ, ◌+◌, ◌<◌, List, [], ◌∷◌, ◌++◌, map, take, length, get_or, sym, ap, ◌∙◌, append_assoc}
use Rattle.std.proofs.lemmas.List.{take_more, map-append}
use Rattle.dn_wire.specs.declared.ids.Member.{Member}
use Rattle.dn_puppets.specs.declared.injection.Injection.{Injection}
use Rattle.dn_puppets.specs.Injections.{put_by}

abbrev pub put_one : Member → List ℕ → Member → Injection
put_one from payload to = record { from = from; to = to; payload = payload }

-- what is put to one more
pub put_more : (from : Member) (payload : List ℕ) (to : List Member) (i : ℕ) (d : Member) (old now new : List Injection) (bytes : List ℕ) → i < length to → bytes ≡ payload
    → now ≡ old ++ put_by from payload (take i to) → new ≡ now ++ put_one from bytes (get_or to i d) ∷ [] → new ≡ old ++ put_by from payload (take (i + 1) to)
put_more from payload to i d old now new bytes within same so added =
    let one : Injection = put_one from payload (get_or to i d) in
    let more : put_by from payload (take (i + 1) to) ≡ put_by from payload (take i to) ++ one ∷ [] =
    ap (put_by from payload) (take_more to i d within) ∙ map-append (put_one from payload) (take i to) (get_or to i d ∷ []) in
    added ∙ ap (λ (p : List ℕ). now ++ put_one from p (get_or to i d) ∷ []) same ∙ ap (λ l. l ++ one ∷ []) so
    ∙ append_assoc old (put_by from payload (take i to)) (one ∷ []) ∙ ap (λ l. old ++ l) (sym more)
