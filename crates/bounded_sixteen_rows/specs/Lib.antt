pub mod SixteenRows
