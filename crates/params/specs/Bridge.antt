-- From the structs of the code to the records that the definitions speak of. Assumes nothing.
use Rattle.cells.specs.Figures.{Params, params}
use Rattle.construction_b.specs.Figures.{LongParams, long_params}
use Rattle.params.specs.declared.Params.{Params as Given}
use Rattle.params.specs.declared.long.LongParams.{LongParams as GivenLong}

abbrev pub given : Given → Params
given p = params p.n p.q p.m p.b

abbrev pub given_long : GivenLong → LongParams
given_long p = long_params p.n p.q p.b
