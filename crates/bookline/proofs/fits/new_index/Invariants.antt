use Rattle.std.proofs.Common.{◌≡◌, drop}
use Rattle.graph.specs.Graph.{among}
use Rattle.bookline.proofs.fits.new_index.Given as goal

-- what is left gives the answer
abbrev pub invariant-loop-earlier : goal.invariant-loop-earlier
invariant-loop-earlier l = among l.index (drop l.earlier-index l.before) ≡ among l.index l.before
