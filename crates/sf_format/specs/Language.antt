-- What a format is for.
use Rattle.sf_format.specs.declared.directive.Profile.{Profile}

-- the formats of scans or those of prints, with the conversions of a profile
pub data Language : Type 0 where
  Scan : Profile → Language
  Print : Profile → Language
