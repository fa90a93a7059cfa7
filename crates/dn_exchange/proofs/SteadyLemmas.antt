-- A sound server can go on as far as it can.
use Rattle.dn_server.specs.declared.parts.Parts.{Parts}
use Rattle.dn_server.specs.Parts.{live}
use Rattle.dn_rounds.specs.Certifying.{IsSteady}
use Rattle.dn_exchange.specs.Invariant.{IsSound}
use Rattle.dn_exchange.proofs.ReadyLemmas.{ready}
use Rattle.dn_exchange.proofs.StepSound.{steps_sound}

pub steady : (p : Parts) → IsSound (live p) → IsSteady p
steady p sound q did steps on =
    let there = steps_sound (live p) did (live q) sound steps in
    let kept = (there.running on).kept in
    (record { round = kept.round; said = kept.said; under = kept.under }, ready q there on)
