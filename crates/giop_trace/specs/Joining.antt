-- How a message came, by the headers of its frames, the latest first: in 1.1 it may have been cut where GIOP 9.4.9 leaves open
-- how the octets behind are aligned.
use Rattle.std.specs.Prelude.{◌||◌, Bool, false, List, [], ◌∷◌}
use Rattle.giop_core.specs.declared.header.Header.{Header}
use Rattle.giop_frames.specs.declared.limits.Cuts.TheVariants.{Aligned}
use Rattle.giop_frames.specs.Frames.{is_unaligned}

-- whether more frames follow one where an aligned cut would not let them
abbrev pub is_cut_otherwise : List Header → Bool
is_cut_otherwise [] = false
is_cut_otherwise (h ∷ earlier) = is_unaligned Aligned h || is_cut_otherwise earlier
