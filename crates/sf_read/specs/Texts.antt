-- The texts where there is no row.
use Rattle.std.specs.Prelude.{ℕ, List, ◌++◌, codes}
use Rattle.std.specs.Fmt.{decimal}
use Rattle.sf_base.specs.declared.values.Kind.{Kind}
use Rattle.sf_base.specs.declared.values.Kind.TheVariants as kind
use Rattle.sf_run.specs.Wording.{outcome_text, start_fault_text}
use Rattle.sf_read.specs.declared.shape.ShapeFault.{ShapeFault}
use Rattle.sf_read.specs.declared.shape.ShapeFault.TheVariants.{Count, Kinds, Missing}
use Rattle.sf_read.specs.declared.row.ScanRowFault.{ScanRowFault}
use Rattle.sf_read.specs.declared.row.ScanRowFault.TheVariants.{ShapeDiffers, Start, Failed, LeftOver, NoMemory}

abbrev pub kind_words : Kind → List ℕ
kind_words kind.I8 = codes "an i8"
kind_words kind.I16 = codes "an i16"
kind_words kind.I32 = codes "an i32"
kind_words kind.I64 = codes "an i64"
kind_words kind.U8 = codes "a u8"
kind_words kind.U16 = codes "a u16"
kind_words kind.U32 = codes "a u32"
kind_words kind.U64 = codes "a u64"
kind_words kind.Text = codes "a text"
kind_words kind.F32 = codes "an f32"
kind_words kind.F64 = codes "an f64"

abbrev pub shape_fault_text : ShapeFault → List ℕ
shape_fault_text (Count format row) =
    codes "values: the format gives " ++ (decimal format ++ (codes ", the row takes " ++ decimal row))
shape_fault_text (Kinds slot format row) =
    codes "slot " ++ (decimal slot ++ (codes ": the format gives " ++ (kind_words format ++ (codes ", the row takes " ++ kind_words row))))
shape_fault_text (Missing slot) =
    codes "slot " ++ (decimal slot ++ codes ": the format may leave it without a value, the row takes no Option")

abbrev pub scan_row_fault_text : ScanRowFault → List ℕ
scan_row_fault_text (ShapeDiffers by) = shape_fault_text by
scan_row_fault_text (Start fault) = start_fault_text fault
scan_row_fault_text (Failed outcome) = outcome_text outcome
scan_row_fault_text (LeftOver at) = codes "left over at " ++ decimal at
scan_row_fault_text NoMemory = codes "out of memory"
