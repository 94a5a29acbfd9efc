-- The names of kinds.
use Rattle.std.specs.Prelude.{ℕ, List, codes}
use Rattle.sf_base.specs.declared.values.Kind.{Kind}
use Rattle.sf_base.specs.declared.values.Kind.TheVariants as kind

-- the type that a value is expected to be of
abbrev pub kind_text : Kind → List ℕ
kind_text kind.I8 = codes "i8"
kind_text kind.I16 = codes "i16"
kind_text kind.I32 = codes "i32"
kind_text kind.I64 = codes "i64"
kind_text kind.U8 = codes "u8"
kind_text kind.U16 = codes "u16"
kind_text kind.U32 = codes "u32"
kind_text kind.U64 = codes "u64"
kind_text kind.Text = codes "text"
kind_text kind.F32 = codes "f32"
kind_text kind.F64 = codes "f64"
