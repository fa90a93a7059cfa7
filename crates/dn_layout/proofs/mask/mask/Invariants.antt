use Rattle.dn_layout.proofs.MaskLemmas.{MaskedBelow}
use Rattle.dn_layout.proofs.mask.mask.Given as goal

abbrev pub invariant-loop-m : goal.invariant-loop-m
invariant-loop-m l = MaskedBelow l.key l.m l.initial.bytes l.bytes l.word l.rng
