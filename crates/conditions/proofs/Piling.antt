-- Every pile of the three layers keeps the laws of a condition.
use Rattle.conditions.specs.Meaning.{Meaning}
use Rattle.conditions.specs.Piles.{Lawful, Piled, bare, under_until, under_range, under_either, PilesLawful}
use Rattle.conditions.specs.Layering.{until_repeats, until_proper, range_repeats, range_proper, either_repeats, either_proper}

lawful : {m : Meaning} → Piled Lawful m → Lawful m
lawful (bare l) = l
lawful (under_until last p) =
    let l = lawful p in
    record { repeats = until_repeats last _ l.repeats; proper = until_proper last _ l.proper }
lawful (under_range r switch p) =
    let l = lawful p in
    record { repeats = range_repeats r switch _ l.repeats; proper = range_proper r switch _ l.proper }
lawful (under_either p q) =
    let l = lawful p in
    let k = lawful q in
    record { repeats = either_repeats _ _ l.repeats k.repeats; proper = either_proper _ _ l.proper k.proper }

pub piles_lawful : PilesLawful
piles_lawful m p = lawful p
